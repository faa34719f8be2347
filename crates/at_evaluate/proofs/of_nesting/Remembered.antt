-- What is known while an instance is evaluated in one go: what is kept, and what is remembered.
use Rattle.std.proofs.Common.{◌≡◌, ◌⊎◌, ℕ, Bool, true, false, List, [], ◌∷◌, Option, Some, None, inl, inr, refl, sym, ap, ◌∙◌, subst, if◌then◌else◌, true≢false}
use Rattle.std.specs.Prelude.{IsSome}
use Rattle.std.specs.Map.{lookup}
use Rattle.std.specs.Option.{option_map}
use Rattle.std.proofs.lemmas.Option.{same_Some}
use Rattle.indexmap.specs.IndexMap.{insert_entry}
use Rattle.at_model.specs.Run.{Value, Instance, Contents}
use Rattle.at_model.specs.Rules.{Rules, is_lazy}
use Rattle.at_model.specs.Meaning.{Finds}
use Rattle.at_model.specs.Nested.{IsGround}
use Rattle.at_model.specs.of_fixpoints.Fixpoints.{HasValue}
use Rattle.at_model.proofs.of_formulas.UniqueOutcomes.{once}
use Rattle.at_body.specs.Same.{same_instance}
use Rattle.at_body.specs.Values.{value_view}
use Rattle.at_body.specs.declared.value.Value.{Value as ValueCode}
use Rattle.at_cache.specs.Kept.{Entries}
use Rattle.at_evaluate.specs.Valued.{equations, meaning, kept_values, KeepsEntries}
use Rattle.at_evaluate.specs.Inner.{AreKnown, StayRemembered, is_inner, known_by, remembered}
use Rattle.at_evaluate.specs.Meant.{AreRightValues}
use Rattle.at_evaluate.proofs.Entered.{entered, is_there, value_on}
use Rattle.at_evaluate.proofs.Sameness.{same_true, same_refl}
use Rattle.at_evaluate.proofs.of_nesting.Ground.{ground_of}

-- what stands behind an instance once one more is put
lookup_insert : (es : List (Instance ℕ × ValueCode)) (i j : Instance ℕ) (x : ValueCode) →
    lookup (same_instance i) (insert_entry same_instance es j x) ≡ (if same_instance i j then Some x else lookup
    (same_instance i) es)
lookup_insert [] i j x = refl
lookup_insert (e ∷ es) i j x = by (same_instance j e.0) refl (lookup_insert es i j x)
  where
    either : (b : Bool) → (if b then Some x else lookup (same_instance i) es) ≡ (if b then Some x else (if b then Some
        e.1 else lookup (same_instance i) es))
    either true = refl
    either false = refl

    here : (b : Bool) → same_instance i e.0 ≡ b → same_instance j e.0 ≡ true →
        (if b then Some x else lookup (same_instance i) es) ≡ (if same_instance i j then Some x else (if b then Some
        e.1 else lookup (same_instance i) es))
    here b is same = subst (λ (c : Bool). (if b then Some x else lookup (same_instance i) es) ≡ (if c then Some x else
        (if b then Some e.1 else lookup (same_instance i) es)))
        (sym (ap (same_instance i) (same_true j e.0 same) ∙ is)) (either b)

    behind : (b c : Bool) → same_instance i e.0 ≡ b → same_instance i j ≡ c → same_instance j e.0 ≡ false →
        lookup (same_instance i) (insert_entry same_instance es j x) ≡ (if same_instance i j then Some x else lookup
        (same_instance i) es) →
        (if b then Some e.1 else lookup (same_instance i) (insert_entry same_instance es j x)) ≡ (if c then Some x else
        (if b then Some e.1 else lookup (same_instance i) es))
    behind true true is same off rest = absurd (true≢false (sym (subst (λ (y : Instance ℕ). same_instance y e.0 ≡ true)
        (same_true i j same) is) ∙ off))
    behind true false is same off rest = refl
    behind false c is same off rest = rest ∙ ap (λ (d : Bool). if d then Some x else lookup (same_instance i) es) same

    by : (b : Bool) → same_instance j e.0 ≡ b → lookup (same_instance i) (insert_entry same_instance es j x) ≡ (if
        same_instance i j then Some x else lookup (same_instance i) es) →
        lookup (same_instance i) (if b then (e.0, x) ∷ es else e ∷ insert_entry same_instance es j x) ≡ (if
        same_instance i j then Some x else lookup (same_instance i) (e ∷ es))
    by true is rest = here (same_instance i e.0) refl is
    by false is rest = behind (same_instance i e.0) (same_instance i j) refl refl is rest

-- a kept value is known
pub kept_now : (entries : Entries) (found : List (Instance ℕ × ValueCode)) (j : Instance ℕ) (v : Value ℕ) →
    kept_values entries j ≡ Some v → known_by entries found j ≡ Some v
kept_now entries found j v e = ap (λ (o : Option (Value ℕ)). elim o [ Some w ↦ Some w | None ↦ remembered found j ]) e

module _ (rules : Rules) (look : Contents ℕ) where
  one_value : (i : Instance ℕ) (v w : Value ℕ) → HasValue look (meaning rules) i v →
      HasValue look (meaning rules) i w → v ≡ w
  one_value i v w h g = let e : Finds v ≡ Finds w = once look (meaning rules) i (Finds v) (Finds w) h g in cc

  module _ (entries : Entries) (found : List (Instance ℕ × ValueCode)) (known : AreKnown rules look entries found) where
    -- all that is known holds
    pub right_by : AreRightValues look (meaning rules) (known_by entries found)
    right_by j v e = by (kept_values entries j) refl e
      where
        by : (o : Option (Value ℕ)) → kept_values entries j ≡ o →
            ◌≡◌ {A = Option (Value ℕ)} (elim o [ Some w ↦ Some w | None ↦ remembered found j ]) (Some v) →
            HasValue look (meaning rules) j v
        by None is f = known.finds j v f
        by (Some w) is f = known.right j v (is ∙ f)

    pub ground_by : IsGround look (equations rules) (meaning rules) (known_by entries found) (is_inner rules)
    ground_by = ground_of rules look (known_by entries found) known.circular right_by

    -- and has an entry
    pub stands_by : (j : Instance ℕ) (v : Value ℕ) → known_by entries found j ≡ Some v → IsSome (entries j)
    stands_by j v e = by (kept_values entries j) refl e
      where
        by : (o : Option (Value ℕ)) → kept_values entries j ≡ o →
            ◌≡◌ {A = Option (Value ℕ)} (elim o [ Some w ↦ Some w | None ↦ remembered found j ]) (Some v) →
            IsSome (entries j)
        by None is f = known.stands j v f
        by (Some w) is f = entered entries j (is_there (kept_values entries j) w is)

    -- what is remembered is known
    pub found_known : (j : Instance ℕ) (v : Value ℕ) → remembered found j ≡ Some v → known_by entries found j ≡ Some v
    found_known j v e = by (kept_values entries j) refl
      where
        by : (o : Option (Value ℕ)) → kept_values entries j ≡ o →
            ◌≡◌ {A = Option (Value ℕ)} (elim o [ Some w ↦ Some w | None ↦ remembered found j ]) (Some v)
        by None is = e
        by (Some w) is = ap (λ (x : Value ℕ). Some x) (one_value j w v (known.right j w is) (known.finds j v e))

    pub one_known : (j : Instance ℕ) (v : Value ℕ) → (kept_values entries j ≡ Some v) ⊎ (remembered found j ≡ Some v) →
        known_by entries found j ≡ Some v
    one_known j v (inl e) = kept_now entries found j v e
    one_known j v (inr e) = found_known j v e

    -- and stays so while more comes
    pub known_on : (new : Entries) (more : List (Instance ℕ × ValueCode)) → AreKnown rules look new more →
        KeepsEntries entries new → StayRemembered found more → (j : Instance ℕ) (v : Value ℕ) →
        known_by entries found j ≡ Some v → known_by new more j ≡ Some v
    known_on new more also stays still j v e = by (kept_values entries j) refl e
      where
        later : remembered more j ≡ Some v → (o : Option (Value ℕ)) → kept_values new j ≡ o →
            ◌≡◌ {A = Option (Value ℕ)} (elim o [ Some w ↦ Some w | None ↦ remembered more j ]) (Some v)
        later f None is = f
        later f (Some w) is = ap (λ (x : Value ℕ). Some x) (one_value j w v (also.right j w is) (also.finds j v f))

        by : (o : Option (Value ℕ)) → kept_values entries j ≡ o →
            ◌≡◌ {A = Option (Value ℕ)} (elim o [ Some w ↦ Some w | None ↦ remembered found j ]) (Some v) →
            known_by new more j ≡ Some v
        by None is f = later (still j v f) (kept_values new j) refl
        by (Some w) is f = ap (λ (o : Option (Value ℕ)). elim o [ Some x ↦ Some x | None ↦ remembered more j ])
            (value_on entries new stays j v (is ∙ f))

    -- one more is remembered
    module _ (more : List (Instance ℕ × ValueCode)) (i : Instance ℕ) (x : ValueCode) (put : more ≡ insert_entry
        same_instance found i x) (has : HasValue look (meaning rules) i (value_view x)) where
      now : (j : Instance ℕ) → remembered more j ≡ (if same_instance j i then Some (value_view x) else remembered found
          j)
      now j = ap (λ (es : List (Instance ℕ × ValueCode)). remembered es j) put ∙ ap (option_map value_view)
          (lookup_insert found j i x) ∙ by (same_instance j i)
        where
          by : (b : Bool) → option_map value_view (if b then Some x else lookup (same_instance j) found) ≡ (if b then
              Some (value_view x) else remembered found j)
          by true = refl
          by false = refl

      pub remembered_now : (j : Instance ℕ) (v : Value ℕ) → remembered more j ≡ Some v →
          (remembered found j ≡ Some v) ⊎ ((j ≡ i) × (value_view x ≡ v))
      remembered_now j v e = by (same_instance j i) refl (sym (now j) ∙ e)
        where
          by : (b : Bool) → same_instance j i ≡ b → (if b then Some (value_view x) else remembered found j) ≡ Some v →
              (remembered found j ≡ Some v) ⊎ ((j ≡ i) × (value_view x ≡ v))
          by true is f = inr (same_true j i is, same_Some (value_view x) v f)
          by false is f = inl f

      pub still_remembered : StayRemembered found more
      still_remembered j v e = now j ∙ by (same_instance j i) refl
        where
          by : (b : Bool) → same_instance j i ≡ b → (if b then Some (value_view x) else remembered found j) ≡ Some v
          by true is = ap (λ (y : Value ℕ). Some y) (one_value j (value_view x) v (subst (λ y. HasValue look (meaning
              rules) y (value_view x)) (sym (same_true j i is)) has) (known.finds j v e))
          by false is = e

      pub remembered_is : remembered more i ≡ Some (value_view x)
      remembered_is = now i ∙ ap (λ (b : Bool). if b then Some (value_view x) else remembered found i) (same_refl i)

      pub known_more : IsSome (entries i) → is_lazy rules i.attribute ≡ false → AreKnown rules look entries more
      known_more some lazy = record {
        circular = known.circular;
        right = known.right;
        plain = known.plain;
        finds = λ j v e. elim (remembered_now j v e) [
          | inl was ↦ known.finds j v was
          | inr p ↦ subst (λ w. HasValue look (meaning rules) j w) p.1 (subst (λ y. HasValue look (meaning rules) y
              (value_view x)) (sym p.0) has)
        ];
        stands = λ j v e. elim (remembered_now j v e) [
          | inl was ↦ known.stands j v was
          | inr p ↦ subst (λ (y : Instance
              ℕ). IsSome (entries y)) (sym p.0) some
        ];
        inner = λ j v e. elim (remembered_now j v e) [
          | inl was ↦ known.inner j v was
          | inr p ↦ subst (λ (y : Instance ℕ). is_lazy rules y.attribute ≡ false) (sym p.0) lazy
        ];
      }

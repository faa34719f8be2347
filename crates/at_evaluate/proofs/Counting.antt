-- The work counts what comes to be kept.
use Rattle.std.proofs.Common.{◌≡◌, ◌⊎◌, ℕ, ◌+◌, ◌-◌, ◌^◌, ◌<◌, min, Bool, true, false, List, [], ◌∷◌, ◌++◌, length, length-append, Option, Some, None, inl, inr, refl, sym, ap, ◌∙◌, subst, arith, if◌then◌else◌}
use Rattle.std.specs.Prelude.{IsSome}
use Rattle.at_model.specs.Run.{Value, Instance, Location}
use Rattle.at_model.specs.Meaning.{Among, Distinct}
use Rattle.at_body.specs.Same.{same_instance}
use Rattle.at_cache.specs.Kept.{Kept, Entries, KeepsAll, Puts, value_at}
use Rattle.at_evaluate.specs.Valued.{kept_values, IsKept, KeepsEntries}
use Rattle.at_evaluate.specs.Sparing.{AreGained, Counts}
use Rattle.at_evaluate.proofs.Entered.{entered_on, is_there, kept_on, not_none, value_on}
use Rattle.at_evaluate.proofs.Sameness.{same_true, same_refl}

-- what is counted from nothing, and added then
pub counted_more : (w n x y : ℕ) → x ≡ min (0 + n) (2 ^ 64 - 1) → y ≡ min (w + x) (2 ^ 64 - 1) → y ≡ min (w + n) (2 ^ 64 - 1)
counted_more w n x y count sum = omega (arith, count, sum)

pub counted_none : (n x : ℕ) → x ≡ min (0 + n) (2 ^ 64 - 1) → x ≡ 0 → n ≡ 0
counted_none n x count none = omega (arith, count, none)

pub counted_still : (w n : ℕ) → w < 2 ^ 64 → n ≡ 0 → w ≡ min (w + n) (2 ^ 64 - 1)
counted_still w n few none = omega (arith, few, none)

module _ (old new : Entries) where
  gains_none : KeepsEntries old new → ((i : Instance ℕ) → kept_values new i ≡ kept_values old i) → AreGained old new []
  gains_none stays same = record {
    distinct = tt;
    exactly = λ i. (λ h. absurd h, λ h. absurd (not_none (kept_values new i) h.0 (same i ∙ h.1)));
    stays = stays;
  }

  -- no value comes
  pub counts_shared : (w x : ℕ) → x ≡ w → w < 2 ^ 64 → KeepsEntries old new → ((i : Instance ℕ) → kept_values new i ≡ kept_values old i) → Counts old new w x
  counts_shared w x still small stays same = ([], gains_none stays same, omega (arith, small, still))

  -- nothing comes
  pub counts_same : (w : ℕ) → w < 2 ^ 64 → KeepsAll old new → Counts old new w w
  counts_same w small same = counts_shared w w refl small (λ i some. same i) (λ i. ap value_at (same i))

  -- one value comes
  pub gains_one : (i : Instance ℕ) (k : Kept) (v : Value ℕ) → k.value ≡ Some v → old i ≡ None → ((j : Instance ℕ) → new j ≡ (if same_instance i j then Some k else old j)) → AreGained old new (i ∷ [])
  gains_one i k v valued absent adds = record {
    distinct = (λ h. h, tt);
    exactly = λ j. (λ h. there j h, λ h. inl (by j (same_instance i j) refl (adds j) h.0 h.1));
    stays = λ j some. other j some (same_instance i j) refl (adds j);
  }
    where
      here : IsKept new i
      here = is_there (kept_values new i) v (ap value_at (adds i ∙ ap (λ b. if b then Some k else old i) (same_refl i)) ∙ valued)

      there : (j : Instance ℕ) → Among j (i ∷ []) → IsKept new j × (kept_values old j ≡ None)
      there j (inl e) = (subst (IsKept new) (sym e) here, subst (λ x. kept_values old x ≡ None) (sym e) (ap value_at absent))
      there j (inr h) = absurd h

      by : (j : Instance ℕ) (b : Bool) → same_instance i j ≡ b → new j ≡ (if b then Some k else old j) → IsKept new j → kept_values old j ≡ None → j ≡ i
      by j true s e some none = sym (same_true i j s)
      by j false s e some none = absurd (not_none (kept_values new j) some (ap value_at e ∙ none))

      other : (j : Instance ℕ) → IsSome (old j) → (b : Bool) → same_instance i j ≡ b → new j ≡ (if b then Some k else old j) → new j ≡ old j
      other j some true s e = absurd (not_none (old j) some (subst (λ x. old x ≡ None) (same_true i j s) absent))
      other j some false s e = e

  pub counts_put : (i : Instance ℕ) (v : Value ℕ) (reads : List (Location ℕ)) (uses : List (Instance ℕ)) (w x : ℕ) → old i ≡ None → Puts old i (Some v) reads uses new → x ≡ min (w + 1) (2 ^ 64 - 1) → Counts old new w x
  counts_put i v reads uses w x absent p more = (i ∷ [], gains_one i p.entry v p.value absent p.adds, more)

-- nothing changes
pub counts_none : (entries : Entries) (w : ℕ) → w < 2 ^ 64 → Counts entries entries w w
counts_none entries w small = counts_same entries entries w small (λ i. refl)

-- what comes first, and then
pub among_parts : {A : Type 0} (xs ys : List A) (a : A) → Among a (xs ++ ys) → Among a xs ⊎ Among a ys
among_parts [] ys a h = inr h
among_parts (x ∷ xs) ys a (inl e) = inl (inl e)
among_parts (x ∷ xs) ys a (inr h) = elim (among_parts xs ys a h) [ inl g ↦ inl (inr g) | inr g ↦ inr g ]

among_left : {A : Type 0} (xs ys : List A) (a : A) → Among a xs → Among a (xs ++ ys)
among_left [] ys a h = absurd h
among_left (x ∷ xs) ys a (inl e) = inl e
among_left (x ∷ xs) ys a (inr h) = inr (among_left xs ys a h)

among_right : {A : Type 0} (xs ys : List A) (a : A) → Among a ys → Among a (xs ++ ys)
among_right [] ys a h = h
among_right (x ∷ xs) ys a h = inr (among_right xs ys a h)

pub distinct_append : {A : Type 0} (xs ys : List A) → Distinct xs → Distinct ys → ((a : A) → Among a xs → Among a ys → ⊥) → Distinct (xs ++ ys)
distinct_append [] ys d e apart = e
distinct_append (x ∷ xs) ys d e apart = (λ h. elim (among_parts xs ys x h) [ inl g ↦ d.0 g | inr g ↦ apart x (inl refl) g ], distinct_append xs ys d.1 e (λ a h. apart a (inr h)))

module _ (first next last : Entries) (xs ys : List (Instance ℕ)) (g : AreGained first next xs) (h : AreGained next last ys) where
  gains_more : AreGained first last (xs ++ ys)
  gains_more = record {
    distinct = distinct_append xs ys g.distinct h.distinct (λ i a b. let p = g.exactly i in let q = h.exactly i in let x = p.0 a in let y = q.0 b in not_none (kept_values next i) x.0 y.1);
    exactly = λ i. (λ a. elim (among_parts xs ys i a) [ inl b ↦ early i b | inr b ↦ late i b ], λ p. back i p.0 p.1 (kept_values next i) refl);
    stays = λ i some. h.stays i (entered_on first next g.stays i some) ∙ g.stays i some;
  }
    where
      early : (i : Instance ℕ) → Among i xs → IsKept last i × (kept_values first i ≡ None)
      early i a = let p = g.exactly i in let x = p.0 a in (kept_on next last h.stays i x.0, x.1)

      was_none : (i : Instance ℕ) → kept_values next i ≡ None → (o : Option (Value ℕ)) → kept_values first i ≡ o → kept_values first i ≡ None
      was_none i none None is = is
      was_none i none (Some v) is = absurd (not_none (kept_values next i) (is_there (kept_values next i) v (value_on first next g.stays i v is)) none)

      late : (i : Instance ℕ) → Among i ys → IsKept last i × (kept_values first i ≡ None)
      late i b = let q = h.exactly i in let y = q.0 b in (y.0, was_none i y.1 (kept_values first i) refl)

      back : (i : Instance ℕ) → IsKept last i → kept_values first i ≡ None → (o : Option (Value ℕ)) → kept_values next i ≡ o → Among i (xs ++ ys)
      back i some none None is = let q = h.exactly i in among_right xs ys i (q.1 (some, is))
      back i some none (Some v) is = let p = g.exactly i in among_left xs ys i (p.1 (is_there (kept_values next i) v is, none))

saturated : (w x y m n k : ℕ) → k ≡ m + n → x ≡ min (w + m) (2 ^ 64 - 1) → y ≡ min (x + n) (2 ^ 64 - 1) → y ≡ min (w + k) (2 ^ 64 - 1)
saturated w x y m n k sum e f = omega (arith, sum, e, f)

pub counts_more : (first next last : Entries) (w x y : ℕ) → Counts first next w x → Counts next last x y → Counts first last w y
counts_more first next last w x y (xs, g, e) (ys, h, f) = (xs ++ ys, gains_more first next last xs ys g h, saturated w x y (length xs) (length ys) (length (xs ++ ys)) (length-append xs ys) e f)

-- a value comes after entries without one
pub counts_after : (first next last : Entries) (w x y : ℕ) → x ≡ w → w < 2 ^ 64 → KeepsEntries first next → ((i : Instance ℕ) → kept_values next i ≡ kept_values first i) → Counts next last x y → Counts first last w y
counts_after first next last w x y still small stays same more = counts_more first next last w x y (counts_shared first next w x still small stays same) more

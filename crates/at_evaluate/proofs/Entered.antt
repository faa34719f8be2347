-- Entries with a value and without one.
use Rattle.std.proofs.Common.{◌≡◌, ℕ, Bool, true, false, List, Option, Some, None, Result, Ok, Err, IfOk, refl, sym, ap, ◌∙◌, subst, if◌then◌else◌, true≢false}
use Rattle.std.specs.Prelude.{IfNone, IsSome, is_some}
use Rattle.at_model.specs.Run.{Value, Instance}
use Rattle.at_model.specs.Rules.{Rules, is_lazy}
use Rattle.at_body.specs.Same.{same_instance}
use Rattle.at_cache.specs.Kept.{Kept, Entries, AreKept, value_at}
use Rattle.at_evaluate.specs.Valued.{kept_values, ArePlain, AreValued, IsKept, KeepsEntries}
use Rattle.at_evaluate.proofs.Sameness.{same_true}

-- something is there, or nothing
module _ {A : Type 0} where
  pub is_there : (o : Option A) (a : A) → o ≡ Some a → IsSome o
  is_there None a e = absurd cc
  is_there (Some b) a e = refl

  pub there : (o : Option A) → IsSome o → (a : A) × (o ≡ Some a)
  there None some = absurd (true≢false (sym some))
  there (Some a) some = (a, refl)

  pub none_entered : (o : Option A) (said : Bool) → said ≡ is_some o → said ≡ false → o ≡ None
  none_entered None said is off = refl
  none_entered (Some a) said is off = absurd (true≢false (sym is ∙ off))

  pub not_none : (o : Option A) → IsSome o → o ≡ None → ⊥
  not_none None some e = absurd (true≢false (sym some))
  not_none (Some a) some e = absurd cc

-- what holds where nothing is there, under a condition that is met
pub none_where : {A E : Type 0} (r : Result (Option A) E) (P Q : Type 0) → P → IfOk r (λ o. IfNone o (P → Q)) →
    IfOk r (λ o. IfNone o Q)
none_where (Ok None) P Q is h = h is
none_where (Ok (Some a)) P Q is h = tt
none_where (Err e) P Q is h = tt

-- what has a value is there
value_there : (o : Option Kept) → IsSome (value_at o) → IsSome o
value_there None some = absurd (true≢false (sym some))
value_there (Some k) some = refl

pub entered : (entries : Entries) (i : Instance ℕ) → IsKept entries i → IsSome (entries i)
entered entries i kept = value_there (entries i) kept

pub all_entered : (entries : Entries) (is : List (Instance ℕ)) → AreValued entries is → AreKept entries is
all_entered entries is all i h = entered entries i (all i h)

-- and stays so
module _ (old new : Entries) (stays : KeepsEntries old new) where
  pub value_on : (i : Instance ℕ) (v : Value ℕ) → kept_values old i ≡ Some v → kept_values new i ≡ Some v
  value_on i v e = ap value_at (stays i (entered old i (is_there (kept_values old i) v e))) ∙ e

  pub kept_on : (i : Instance ℕ) → IsKept old i → IsKept new i
  kept_on i kept = subst (λ o. IsSome (value_at o)) (sym (stays i (entered old i kept))) kept

  pub entered_on : (i : Instance ℕ) → IsSome (old i) → IsSome (new i)
  entered_on i some = subst IsSome (sym (stays i some)) some

  pub valued_on : (is : List (Instance ℕ)) → AreValued old is → AreValued new is
  valued_on is all i h = kept_on i (all i h)

-- a lazy instance whose value isn't kept has no entry
pub absent : (rules : Rules) (entries : Entries) → ArePlain rules entries → (i : Instance ℕ) → is_lazy rules i.attribute ≡ true → kept_values entries i ≡ None → entries i ≡ None
absent rules entries plain i lazy none = by (entries i) refl
  where
    by : (o : Option Kept) → entries i ≡ o → entries i ≡ None
    by None is = is
    by (Some k) is = absurd (true≢false (sym lazy ∙ plain i k is (sym (ap value_at is) ∙ none)))

-- an entry of an instance that had none leaves those that are there
pub put_stays : (old new : Entries) (i : Instance ℕ) (entry : Kept) → old i ≡ None → ((j : Instance ℕ) → new j ≡ (if same_instance i j then Some entry else old j)) → KeepsEntries old new
put_stays old new i entry absent adds j some = by (same_instance i j) refl (adds j)
  where
    by : (b : Bool) → same_instance i j ≡ b → new j ≡ (if b then Some entry else old j) → new j ≡ old j
    by true s e = absurd (not_none (old j) some (subst (λ x. old x ≡ None) (same_true i j s) absent))
    by false s e = e

-- one without a value leaves the values that are kept
pub put_unvalued : (old new : Entries) (i : Instance ℕ) (entry : Kept) → entry.value ≡ None → old i ≡ None
    → ((j : Instance ℕ) → new j ≡ (if same_instance i j then Some entry else old j)) → (j : Instance ℕ) → kept_values new j ≡ kept_values old j
put_unvalued old new i entry none absent adds j = by (same_instance i j) refl (adds j)
  where
    by : (b : Bool) → same_instance i j ≡ b → new j ≡ (if b then Some entry else old j) → kept_values new j ≡ kept_values old j
    by true s e = ap value_at e ∙ none ∙ sym (ap value_at (subst (λ x. old x ≡ None) (same_true i j s) absent))
    by false s e = ap value_at e

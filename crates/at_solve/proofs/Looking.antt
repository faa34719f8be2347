-- What becomes of what is known where a condition is looked at.
use Rattle.std.proofs.Common.{◌≡◌, ℕ, zero, suc, ◌+◌, ◌<◌, ◌≤◌, ◌⊎◌, inl, inr, List, [], ◌∷◌, ◌++◌, length, refl, ap, sym, ◌∙◌, subst, arith, true≢false, Option, Some, None, Bool, true, false}
use Rattle.std.specs.Prelude.{◌↔◌, ◌||◌, set, replicate, slice_get, Vec}
use Rattle.std.proofs.lemmas.List.{length-set}
use Rattle.at_model.specs.Meaning.{Among}
use Rattle.at_model.proofs.Options.{both, either_true, and_true, or_right}
use Rattle.at_solve.specs.declared.condition.Condition.{Condition}
use Rattle.at_solve.specs.declared.condition.Condition.TheVariants.{Always, Never, When, Both, Either}
use Rattle.at_solve.specs.Derivations.{Derives, always, follows, by_both, by_one, by_other}
use Rattle.at_solve.specs.Spreading.{AreListed, HasLooked, named, Names, NamesIn, NamesOne, Spreads, is_known, is_met, is_met_at, is_met_in, unknown, users_at}
use Rattle.at_solve.proofs.SpreadingLemmas.{there, within, known_here, known_later, known_still, met_later, no_way, same_or}
use Rattle.at_solve.proofs.UserLemmas.{among_last, among_more}

-- among these with one more
last_or : (u : ℕ) (us : List ℕ) {p : ℕ} → Among u (us ++ p ∷ []) → Among u us ⊎ (u ≡ p)
last_or u [] (inl e) = inr e
last_or u [] (inr h) = absurd h
last_or u (w ∷ us) (inl e) = inl (inl e)
last_or u (w ∷ us) (inr h) = elim (last_or u us h) [ inl k ↦ inl (inr k) | inr e ↦ inr e ]

-- what is met by what is derived is derived
pub met_derives : (system : List Condition) (known : List Bool) → ((u : ℕ) → is_known known u ≡ true → Derives system u) → (p : ℕ) → is_met_at system known p ≡ true → Derives system p
met_derives system known sound p e = let (q, is, met) = there known system p e in by q is met
  where
    by : (q : Condition) → slice_get system p ≡ Some q → is_met known q ≡ true → Derives system p
    by Always is met = always p is
    by Never is met = no_way met
    by (When r) is met = follows p r is (sound r met)
    by (Both r s) is met = let (here, other) = both (is_known known r) (is_known known s) met in by_both p r s is (sound r here) (sound s other)
    by (Either r s) is met = elim (either_true (is_known known r) (is_known known s) met) [
      | inl here ↦ by_one p r s is (sound r here)
      | inr other ↦ by_other p r s is (sound s other)
    ]

-- it is left out of those to be looked at where it is known, or not met
pub passed : (system : List Condition) (p : ℕ) (known : List Bool) (waiting : List ℕ) → (is_met_at system known p ≡ true → is_known known p ≡ true)
    → (Left Rest : ℕ → Type 0) → ((u : ℕ) → Left u → (u ≡ p) ⊎ Rest u) → Spreads system Left known waiting → Spreads system Rest known waiting
passed system p known waiting settled Left Rest apart s = record {
  size = s.size;
  sound = s.sound;
  waits = s.waits;
  rest = λ u met. elim (s.rest u met) [
    | inl h ↦ inl h
    | inr (inl h) ↦ inr (inl h)
    | inr (inr left) ↦ elim (apart u left) [
      | inl e ↦ inl (subst (λ z. is_known known z ≡ true) (sym e) (settled (subst (λ z. is_met_at system known z ≡ true) e met)))
      | inr r ↦ inr (inr r)
    ]
  ];
}

-- what waits before waits, with one more
more_waits : (system : List Condition) (waiting : List ℕ) (p u : ℕ) → NamesOne system waiting u → NamesOne system (waiting ++ p ∷ []) u
more_waits system waiting p u (q, h, names) = (q, among_more q p waiting h, names)

-- what is met with one more was, or names it
met_at_later : (system : List Condition) (known : List Bool) (p u : ℕ) → is_met_at system (set known p true) u ≡ true → (is_met_at system known u ≡ true) ⊎ Names system u p
met_at_later system known p u e = let (q, is, met) = there (set known p true) system u e in
    elim (met_later known p q met) [
      | inl h ↦ inl (ap (is_met_in known) is ∙ h)
      | inr h ↦ inr (subst (λ o. NamesIn o p) (sym is) h)
    ]

-- with one more that is met
pub found : (system : List Condition) (p : ℕ) (known new : List Bool) (waiting now : List ℕ) → p < length known → is_met_at system known p ≡ true
    → new ≡ set known p true → now ≡ waiting ++ p ∷ []
    → (Left Rest : ℕ → Type 0) → ((u : ℕ) → Left u → (u ≡ p) ⊎ Rest u) → Spreads system Left known waiting → Spreads system Rest new now
found system p known new waiting now less met is list Left Rest apart s =
    subst (λ ks. Spreads system Rest ks now) (sym is) (subst (Spreads system Rest (set known p true)) (sym list) grown)
  where
    sound_now : (u : ℕ) → is_known (set known p true) u ≡ true → Derives system u
    sound_now u h = elim (known_later known p u h) [
      | inl k ↦ s.sound u k
      | inr e ↦ subst (Derives system) (sym e) (met_derives system known s.sound p met)
    ]

    waits_now : (u : ℕ) → Among u (waiting ++ p ∷ []) → is_known (set known p true) u ≡ true
    waits_now u h = elim (last_or u waiting h) [
      | inl k ↦ known_still known p u less (s.waits u k)
      | inr e ↦ subst (λ z. is_known (set known p true) z ≡ true) (sym e) (known_here known p less)
    ]

    rest_now : (u : ℕ) → is_met_at system (set known p true) u ≡ true → (is_known (set known p true) u ≡ true) ⊎ (NamesOne system (waiting ++ p ∷ []) u ⊎ Rest u)
    rest_now u h = elim (met_at_later system known p u h) [
      | inr names ↦ inr (inl (p, among_last p waiting, names))
      | inl before ↦ elim (s.rest u before) [
        | inl k ↦ inl (known_still known p u less k)
        | inr (inl k) ↦ inr (inl (more_waits system waiting p u k))
        | inr (inr left) ↦ elim (apart u left) [
          | inl e ↦ inl (subst (λ z. is_known (set known p true) z ≡ true) (sym e) (known_here known p less))
          | inr r ↦ inr (inr r)
        ]
      ]
    ]

    grown : Spreads system Rest (set known p true) (waiting ++ p ∷ [])
    grown = record { size = length-set known p true ∙ s.size; sound = sound_now; waits = waits_now; rest = rest_now }

known_within : (known : List Bool) (p : ℕ) → is_known known p ≡ true → p < length known
known_within [] p e = no_way e
known_within (b ∷ bs) zero e = omega arith
known_within (b ∷ bs) (suc p) e = omega (arith, known_within bs p e)

-- the users of one that waits no more are still to be looked at
pub popped : {Z : Type 0} (system : List Condition) (users : List (Vec ℕ Z)) (known : List Bool) (waiting now : List ℕ) (p : ℕ) → AreListed system users
    → waiting ≡ now ++ p ∷ [] → Spreads system (λ u. ⊥) known waiting → Spreads system (λ u. Among u (users_at users p)) known now
popped system users known waiting now p listed is s = record {
  size = s.size;
  sound = s.sound;
  waits = λ u h. s.waits u (subst (Among u) (sym is) (among_more u p now h));
  rest = λ u met. elim (s.rest u met) [
    | inl h ↦ inl h
    | inr (inr off) ↦ absurd off
    | inr (inl (q, h, names)) ↦ elim (last_or q now (subst (Among q) is h)) [
      | inl k ↦ inr (inl (q, k, names))
      | inr e ↦ inr (inr (listed.listed u p (subst (Names system u) e names)
          (omega (arith, s.size, known_within known p (s.waits p (subst (Among p) (sym is) (among_last p now)))))))
    ]
  ];
}

-- where none waits, and none is to be looked at, what is met is known
pub settled : (system : List Condition) (known : List Bool) (waiting : List ℕ) → length waiting ≡ 0 → Spreads system (λ u. ⊥) known waiting
    → (u : ℕ) → is_met_at system known u ≡ true → is_known known u ≡ true
settled system known (p ∷ ps) none s u met = absurd (omega (arith, none))
settled system known [] none s u met = elim (s.rest u met) [
  | inl h ↦ h
  | inr (inl (q, off, names)) ↦ absurd off
  | inr (inr off) ↦ absurd off
]

met_by : (system : List Condition) (known : List Bool) (p : ℕ) (q : Condition) → slice_get system p ≡ Some q → is_met known q ≡ true → is_met_at system known p ≡ true
met_by system known p q is met = ap (is_met_in known) is ∙ met

-- and what is derived is known
pub derived_known : (system : List Condition) (known : List Bool) → ((u : ℕ) → is_met_at system known u ≡ true → is_known known u ≡ true)
    → (p : ℕ) → Derives system p → is_known known p ≡ true
derived_known system known closed p (always _ is) = closed p (met_by system known p Always is refl)
derived_known system known closed p (follows _ q is d) = closed p (met_by system known p (When q) is (derived_known system known closed q d))
derived_known system known closed p (by_both _ q r is d e) = closed p (met_by system known p (Both q r) is
    (and_true (is_known known q) (is_known known r) (derived_known system known closed q d) (derived_known system known closed r e)))
derived_known system known closed p (by_one _ q r is d) =
    closed p (met_by system known p (Either q r) is (one_side (is_known known q) (is_known known r) (derived_known system known closed q d)))
  where
    one_side : (a b : Bool) → a ≡ true → (a || b) ≡ true
    one_side a b h = rw h refl
derived_known system known closed p (by_other _ q r is d) =
    closed p (met_by system known p (Either q r) is (or_right (is_known known q) (is_known known r) (derived_known system known closed r d)))

-- at the end: just what is derived is known
pub ended : (system : List Condition) (known : List Bool) (waiting : List ℕ) → length waiting ≡ 0 → Spreads system (λ u. ⊥) known waiting
    → (p : ℕ) → (is_known known p ≡ true) ↔ Derives system p
ended system known waiting none s p = (s.sound p, derived_known system known (settled system known waiting none s) p)

none_known : (n u : ℕ) → is_known (replicate n false) u ≡ true → ⊥
none_known zero u e = true≢false (sym e)
none_known (suc n) zero e = true≢false (sym e)
none_known (suc n) (suc u) e = none_known n u e

-- in the beginning
pub begun : (system : List Condition) (known : List Bool) (waiting : List ℕ) → known ≡ replicate (length system) false → waiting ≡ [] → length known ≡ length system
    → Spreads system (λ u. 0 ≤ u) known waiting
begun system known waiting is none size = record {
  size = size;
  sound = λ u h. absurd (none_known (length system) u (subst (λ ks. is_known ks u ≡ true) is h));
  waits = λ u h. absurd (subst (Among u) none h);
  rest = λ u met. inr (inr (omega arith));
}

-- what none of those stands for that are left is left to none
pub none_left : (system : List Condition) (Left : ℕ → Type 0) (known : List Bool) (waiting : List ℕ) → ((u : ℕ) → u < length system → Left u → ⊥)
    → Spreads system Left known waiting → Spreads system (λ u. ⊥) known waiting
none_left system Left known waiting none s = record {
  size = s.size;
  sound = s.sound;
  waits = s.waits;
  rest = λ u met. elim (s.rest u met) [
    | inl h ↦ inl h
    | inr (inl h) ↦ inr (inl h)
    | inr (inr left) ↦ let (q, is, more) = there known system u met in absurd (none u (within system u q is) left)
  ];
}

met_within : (system : List Condition) (known : List Bool) (p : ℕ) → length known ≡ length system → is_met_at system known p ≡ true → p < length known
met_within system known p size met = let (q, is, more) = there known system p met in omega (arith, size, within system p q is)

-- a look leaves what there is to be looked at but that one
pub looked : (system : List Condition) (p : ℕ) (known new : List Bool) (waiting now : List ℕ) → HasLooked system p known new waiting now
    → (Left Rest : ℕ → Type 0) → ((u : ℕ) → Left u → (u ≡ p) ⊎ Rest u) → Spreads system Left known waiting → Spreads system Rest new now
looked system p known new waiting now (inl (same, list, settled_so)) Left Rest apart s =
    subst (λ ks. Spreads system Rest ks now) (sym same) (subst (Spreads system Rest known) (sym list)
    (passed system p known waiting (λ met. settled_so met (met_within system known p s.size met)) Left Rest apart s))
looked system p known new waiting now (inr (less, met, is, list)) Left Rest apart s = found system p known new waiting now less met is list Left Rest apart s

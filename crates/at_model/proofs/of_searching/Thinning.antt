-- Searches that pass what has a value: lists of those to do, and how many of a list weren't seen yet.
use Rattle.std.proofs.Common.{◌⊎◌, ℕ, zero, suc, ◌≤◌, List, [], ◌∷◌, ◌++◌, inl, inr, refl, sym, subst, arith}
use Rattle.at_model.specs.Meaning.{Among}
use Rattle.at_model.proofs.Reached.{either_among}

-- whether each is one of the list or isn't can be told
abbrev pub IsTold : Type 0 → Type 0
IsTold A = (a : A) (as' : List A) → Among a as' ⊎ (¬ (Among a as'))

-- the second list is the first one, in which some of these may be left out
pub data Thinned {A : Type 0} (W : List A) : List A → List A → Type 0 where
  nothing : Thinned W [] []
  keeps : (a : A) {t u : List A} → Thinned W t u → Thinned W (a ∷ t) (a ∷ u)
  drops : (a : A) {t u : List A} → Among a W → Thinned W t u → Thinned W (a ∷ t) u

-- none is left out
pub whole : {A : Type 0} (W t : List A) → Thinned W t t
whole W [] = nothing
whole W (a ∷ t) = keeps a (whole W t)

-- all in front are left out
pub front_dropped : {A : Type 0} (W front : List A) {t u : List A} → ((a : A) → Among a front → Among a W) → Thinned W t u →
    Thinned W (front ++ t) u
front_dropped W [] all x = x
front_dropped W (a ∷ front) all x = drops a (all a (inl refl)) (front_dropped W front (λ b h. all b (inr h)) x)

-- none in front is left out
pub front_kept : {A : Type 0} (W front : List A) {t u : List A} → Thinned W t u → Thinned W (front ++ t) (front ++ u)
front_kept W [] x = x
front_kept W (a ∷ front) x = keeps a (front_kept W front x)

-- each of the first list is one of the second
abbrev pub IsPart : {A : Type 0} → List A → List A → Type 0
IsPart {A} these those = (a : A) → Among a these → Among a those

-- each of the first list is one of the second, or of these
abbrev pub IsPartWith : {A : Type 0} → List A → List A → List A → Type 0
IsPartWith {A} W these those = (a : A) → Among a these → Among a those ⊎ Among a W

pub part_with_one : {A : Type 0} (a : A) (these those : List A) → Among a those → IsPart these those → IsPart (a ∷ these) those
part_with_one a these those h p b (inl e) = subst (λ z. Among z those) (sym e) h
part_with_one a these those h p b (inr g) = p b g

pub both_with_one : {A : Type 0} (a : A) (these those : List A) → IsPart these those → IsPart (a ∷ these) (a ∷ those)
both_with_one a these those p b (inl e) = inl e
both_with_one a these those p b (inr g) = inr (p b g)

pub with_more : {A : Type 0} (W : List A) (a : A) (these those : List A) → IsPartWith W these those → IsPartWith W these (a ∷ those)
with_more W a these those p b g = elim (p b g) [ inl h ↦ inl (inr h) | inr h ↦ inr h ]

pub with_both : {A : Type 0} (W : List A) (a : A) (these those : List A) → IsPartWith W these those →
    IsPartWith W (a ∷ these) (a ∷ those)
with_both W a these those p b (inl e) = inl (inl e)
with_both W a these those p b (inr g) = with_more W a these those p b g

-- how many of the list weren't seen
abbrev pub unseen : {A : Type 0} → IsTold A → List A → List A → ℕ
unseen told seen [] = zero
unseen told seen (a ∷ as') = elim (told a seen) [ inl h ↦ unseen told seen as' | inr h ↦ suc (unseen told seen as') ]

step_less : {A : Type 0} (told : IsTold A) (seen more : List A) (a : A) (n m : ℕ) → IsPart seen more → n ≤ m →
    elim (told a more) [ inl h ↦ n | inr h ↦ suc n ] ≤ elim (told a seen) [ inl h ↦ m | inr h ↦ suc m ]
step_less told seen more a n m part le = by_cases (told a more) (told a seen)
  where
    by_cases : (x : Among a more ⊎ (¬ (Among a more))) (y : Among a seen ⊎ (¬ (Among a seen))) →
        elim x [ inl h ↦ n | inr h ↦ suc n ] ≤ elim y [ inl h ↦ m | inr h ↦ suc m ]
    by_cases (inl h) (inl g) = le
    by_cases (inl h) (inr g) = omega (arith, le)
    by_cases (inr h) (inl g) = absurd (h (part a g))
    by_cases (inr h) (inr g) = omega (arith, le)

-- fewer weren't where more was seen
pub fewer : {A : Type 0} (told : IsTold A) (seen more as' : List A) → IsPart seen more →
    unseen told more as' ≤ unseen told seen as'
fewer told seen more [] part = omega arith
fewer told seen more (a ∷ as') part =
    step_less told seen more a (unseen told more as') (unseen told seen as') part (fewer told seen more as' part)

one_less : {A : Type 0} (told : IsTold A) (seen : List A) (a : A) (n m : ℕ) → (¬ (Among a seen)) → n ≤ m →
    suc (elim (told a (a ∷ seen)) [ inl h ↦ n | inr h ↦ suc n ]) ≤ elim (told a seen) [ inl h ↦ m | inr h ↦ suc m ]
one_less told seen a n m off le = by_cases (told a (a ∷ seen)) (told a seen)
  where
    by_cases : (x : Among a (a ∷ seen) ⊎ (¬ (Among a (a ∷ seen)))) (y : Among a seen ⊎ (¬ (Among a seen))) →
        suc (elim x [ inl h ↦ n | inr h ↦ suc n ]) ≤ elim y [ inl h ↦ m | inr h ↦ suc m ]
    by_cases x (inl g) = absurd (off g)
    by_cases (inl h) (inr g) = omega (arith, le)
    by_cases (inr h) (inr g) = absurd (h (inl refl))

then_less : {A : Type 0} (told : IsTold A) (seen : List A) (a b : A) (n m : ℕ) → suc n ≤ m →
    suc (elim (told b (a ∷ seen)) [ inl h ↦ n | inr h ↦ suc n ]) ≤ elim (told b seen) [ inl h ↦ m | inr h ↦ suc m ]
then_less told seen a b n m le = by_cases (told b (a ∷ seen)) (told b seen)
  where
    by_cases : (x : Among b (a ∷ seen) ⊎ (¬ (Among b (a ∷ seen)))) (y : Among b seen ⊎ (¬ (Among b seen))) →
        suc (elim x [ inl h ↦ n | inr h ↦ suc n ]) ≤ elim y [ inl h ↦ m | inr h ↦ suc m ]
    by_cases (inl h) (inl g) = le
    by_cases (inl h) (inr g) = omega (arith, le)
    by_cases (inr h) (inl g) = absurd (h (inr g))
    by_cases (inr h) (inr g) = omega (arith, le)

-- one fewer, where one of them was seen now
pub one_fewer : {A : Type 0} (told : IsTold A) (seen as' : List A) (a : A) → Among a as' → (¬ (Among a seen)) →
    suc (unseen told (a ∷ seen) as') ≤ unseen told seen as'
one_fewer told seen [] a h off = absurd h
one_fewer told seen (b ∷ as') a (inl e) off =
    subst (λ z. suc (unseen told (a ∷ seen) (z ∷ as')) ≤ unseen told seen (z ∷ as')) e
    (one_less told seen a (unseen told (a ∷ seen) as') (unseen told seen as') off
    (fewer told seen (a ∷ seen) as' (λ b h. inr h)))
one_fewer told seen (b ∷ as') a (inr h) off =
    then_less told seen a b (unseen told (a ∷ seen) as') (unseen told seen as') (one_fewer told seen as' a h off)

-- one of these is no more than they are
pub less_one : {A : Type 0} (W : List A) (a : A) (seen more : List A) → Among a W → IsPartWith W more (a ∷ seen) →
    IsPartWith W more seen
less_one W a seen more h p b g = elim (p b g) [
  | inl (inl e) ↦ inr (subst (λ z. Among z W) (sym e) h)
  | inl (inr i) ↦ inl i
  | inr i ↦ inr i
]

-- what isn't among the one is among the other
pub of_these : {A B : Type 0} → A ⊎ B → (¬ A) → B
of_these (inl a) off = absurd (off a)
of_these (inr b) off = b

pub either_part : {A : Type 0} (W s : List A) → IsPartWith W (W ++ s) s
either_part W s a h = elim (either_among a W s h) [ inl g ↦ inr g | inr g ↦ inl g ]

-- The first refusal among constants, and faults one behind the other.
use Rattle.std.proofs.Common.{◌≡◌, ◌∙◌, ℕ, suc, ◌+◌, ◌<◌, ◌≤◌, Bool, true, false, not, cond, List, [], ◌∷◌, ◌++◌, length, map, drop, get_or, Option, Some, None, is_some, refl, sym, ap, subst, add-one, append-nil, append_assoc}
use Rattle.std.specs.Option.{option_or}
use Rattle.std.proofs.Math.Seq.{drop-cons}
use Rattle.std.proofs.lemmas.List.{drop_all}
use Rattle.std.proofs.lemmas.Option.{none-some}
use Rattle.at_model.specs.Declarations.{Declarations, Place}
use Rattle.at_start.specs.Constants.{Placed, additions, filled, with_component}
use Rattle.at_start.specs.ConstantFaults.{Refusal, Tells, broken, first_breach, first_refusal, told}
use Rattle.at_start.specs.declared.fault.StartFault.{StartFault}
use Rattle.at_start.specs.declared.fault.StartFault.TheVariants.{Refused, Memory}

-- ---- faults one behind the other

pub tells_first : (o rest : Option Refusal) (e : StartFault) → Tells o e → Tells (option_or o rest) e
tells_first o rest (Refused file c (Some at)) told = subst (λ (p : Option Refusal). option_or p rest ≡ Some (record { file = file; code = c; at = at })) (sym told) refl
tells_first o rest (Refused file c None) told = told
tells_first o rest Memory told = tt

pub tells_behind : (o rest : Option Refusal) (e : StartFault) → o ≡ None → Tells rest e → Tells (option_or o rest) e
tells_behind o rest e none told = subst (λ (p : Option Refusal). Tells (option_or p rest) e) (sym none) told

pub neither : (o p : Option Refusal) → option_or o p ≡ None → (o ≡ None) × (p ≡ None)
neither None p is = (refl, is)
neither (Some r) p is = absurd (none-some r (sym is))

-- it is told
pub told_of : (o : Option Refusal) (r : Refusal) (e : StartFault) → e ≡ told r → o ≡ Some r → Tells o e
told_of o r e is there = subst (Tells o) (sym is) there

-- the error that a `?` hands on
pub told_on : (o : Option Refusal) (e f : StartFault) → f ≡ e → Tells o e → Tells o f
told_on o e f is told = subst (Tells o) (sym is) told

-- ---- loops

module _ {X : Type 0} (f : Placed → Option Refusal) (view : X → Placed) (xs : List X) (i : ℕ) where
  split : (x : X) → i < length xs → x ≡ get_or xs i x
      → first_refusal f (map view (drop i xs)) ≡ option_or (f (view x)) (first_refusal f (map view (drop (i + 1) xs)))
  split x less is =
      let rest = drop (suc i) xs in
      let here : drop i xs ≡ x ∷ rest = drop-cons xs i x less ∙ ap (λ y. y ∷ rest) (sym is) in
      ap (λ ys. first_refusal f (map view ys)) here ∙ ap (λ n. option_or (f (view x)) (first_refusal f (map view (drop n xs)))) (sym (add-one i))

  pub passed_by : (x : X) → i < length xs → x ≡ get_or xs i x → f (view x) ≡ None
      → first_refusal f (map view (drop i xs)) ≡ first_refusal f (map view (drop (i + 1) xs))
  passed_by x less is none = split x less is ∙ ap (λ o. option_or o (first_refusal f (map view (drop (i + 1) xs)))) none

  pub told_here : (x : X) (e : StartFault) → i < length xs → x ≡ get_or xs i x → Tells (f (view x)) e
      → first_refusal f (map view xs) ≡ first_refusal f (map view (drop i xs)) → Tells (first_refusal f (map view xs)) e
  told_here x e less is told so_far =
      subst (λ (o : Option Refusal). Tells o e) (sym (so_far ∙ split x less is))
      (tells_first (f (view x)) (first_refusal f (map view (drop (i + 1) xs))) e told)

  pub told_nowhere : length xs ≤ i → first_refusal f (map view xs) ≡ first_refusal f (map view (drop i xs))
      → first_refusal f (map view xs) ≡ None
  told_nowhere past so_far = so_far ∙ ap (λ ys. first_refusal f (map view ys)) (drop_all i xs past)

  -- none is met at any, so at none of them
  pub none_at : (x : X) → i < length xs → x ≡ get_or xs i x → first_refusal f (map view (drop i xs)) ≡ None
      → (f (view x) ≡ None) × (first_refusal f (map view (drop (i + 1) xs)) ≡ None)
  none_at x less is none = neither (f (view x)) _ (sym (split x less is) ∙ none)

-- ---- rules that are broken with those that fill none

module _ {X : Type 0} (view : X → Placed) (marks : List Place) (ds : Declarations) (xs : List X) where
  -- those from that position on that fill none
  abbrev left : ℕ → List Placed
  left n = additions marks ds (map view (drop n xs))

  module _ (i : ℕ) (x : X) (less : i < length xs) (is : x ≡ get_or xs i x) where
    left_here : left i ≡ cond (not (is_some (filled marks ds (view x).constant))) (view x ∷ left (i + 1)) (left (i + 1))
    left_here =
        let rest = drop (suc i) xs in
        let there : drop i xs ≡ x ∷ rest = drop-cons xs i x less ∙ ap (λ y. y ∷ rest) (sym is) in
        ap (λ ys. additions marks ds (map view ys)) there
        ∙ ap (λ n. cond (not (is_some (filled marks ds (view x).constant))) (view x ∷ left n) (left n)) (sym (add-one i))

    adds_here : is_some (filled marks ds (view x).constant) ≡ false → left i ≡ view x ∷ left (i + 1)
    adds_here none = left_here ∙ ap (λ (t : Bool). cond (not t) (view x ∷ left (i + 1)) (left (i + 1))) none

    module _ (whole after : Declarations) (before : Option Refusal) (so_far : before ≡ first_breach whole (left i)) where
      -- this one fills one
      pub fills_here : is_some (filled marks ds (view x).constant) ≡ true → before ≡ first_breach whole (left (i + 1))
      fills_here fills =
          so_far ∙ ap (first_breach whole) (left_here ∙ ap (λ (t : Bool). cond (not t) (view x ∷ left (i + 1)) (left (i + 1))) fills)

      module _ (none : is_some (filled marks ds (view x).constant) ≡ false) where
        breach_split : before ≡ option_or (broken (with_component whole (view x).constant) (view x)) (first_breach (with_component whole (view x).constant) (left (i + 1)))
        breach_split = so_far ∙ ap (first_breach whole) (adds_here none)

        pub breaks_later : after ≡ with_component whole (view x).constant → broken (with_component whole (view x).constant) (view x) ≡ None
            → before ≡ first_breach after (left (i + 1))
        breaks_later new unbroken =
            breach_split ∙ ap (λ o. option_or o (first_breach (with_component whole (view x).constant) (left (i + 1)))) unbroken
            ∙ ap (λ b. first_breach b (left (i + 1))) (sym new)

        pub breaks_here : (e : StartFault) → Tells (broken (with_component whole (view x).constant) (view x)) e → Tells before e
        breaks_here e told =
            subst (λ (o : Option Refusal). Tells o e) (sym breach_split)
            (tells_first (broken (with_component whole (view x).constant) (view x)) (first_breach (with_component whole (view x).constant) (left (i + 1))) e told)

  pub breaks_nowhere : (i : ℕ) (whole : Declarations) (before : Option Refusal) → length xs ≤ i → before ≡ first_breach whole (left i) → before ≡ None
  breaks_nowhere i whole before past so_far = so_far ∙ ap (λ ys. first_breach whole (additions marks ds (map view ys))) (drop_all i xs past)

-- ---- items of a slice

-- the part that the next one gives is appended
pub next_part : {X A : Type 0} (g h : List X → List A) (before after part zs : List A) (items : List X) (k : ℕ) (x : X)
    → k < length items → x ≡ get_or items k x → ((rest : List X) → g (x ∷ rest) ≡ part ++ h rest)
    → after ≡ before ++ part → before ++ g (drop k items) ≡ zs → after ++ h (drop (k + 1) items) ≡ zs
next_part g h before after part zs items k x less is law new so_far =
    let rest = drop (suc k) items in
    let here : drop k items ≡ x ∷ rest = drop-cons items k x less ∙ ap (λ y. y ∷ rest) (sym is) in
    rw (new, add-one) (append_assoc before part (h rest) ∙ ap (λ ys. before ++ ys) (sym (law rest))
    ∙ ap (λ ys. before ++ g ys) (sym here) ∙ so_far)

-- none is left
pub no_part : {X A : Type 0} (g : List X → List A) (before zs : List A) (items : List X) (k : ℕ)
    → length items ≤ k → g [] ≡ []
    → before ++ g (drop k items) ≡ zs → before ≡ zs
no_part g before zs items k past none so_far =
    sym (ap (λ xs. before ++ g xs) (drop_all k items past) ∙ ap (λ ys. before ++ ys) none ∙ append-nil before) ∙ so_far

-- Lists of one edge, and of two.
use Rattle.at_index.proofs.Common.{◌≡◌, List, [], ◌∷◌, true, Contains, arith, eqb-true, length, nat_eq, refl, sym, subst, Bool, Edge, Lists}
use Rattle.at_index.proofs.Listing.{keeps_itself, listed_one}

pub lists_first : (tells : Edge → Bool) (x : Edge) → Lists tells x [] (x ∷ [])
lists_first tells x = listed_one (keeps_itself tells []) refl

-- it comes where there was none
pub lists_alone : (tells : Edge → Bool) (x : Edge) (was old new : List Edge) → nat_eq (length was) 0 ≡ true → was ≡ old → new ≡ x ∷ [] → Lists tells x old new
lists_alone tells x [] old new h same is = subst (λ os. Lists tells x os new) same (subst (Lists tells x []) (sym is) (lists_first tells x))
lists_alone tells x (y ∷ ys) old new h same is = absurd (let none = eqb-true (length (y ∷ ys)) 0 h in omega (arith, none))

pub alone_has : (x : Edge) (new : List Edge) → new ≡ x ∷ [] → Contains new x
alone_has x new is = subst (λ xs. Contains xs x) (sym is) (0, omega arith, refl)

-- Ways up from class to superclass, one step at a time.
use Rattle.std.proofs.Common.{◌≡◌, ℕ, ◌+◌, ◌-◌, ◌<◌, ◌≤◌, [], ◌∷◌, refl, ap, arith, Option, Some, None, suc, zero}
use Rattle.at_model.specs.Classes.{Classes, chain_within, parent_of}

-- what is left of the way after one step
pub chain_within-step : (classes : Classes) (n i c : ℕ) → i < n → chain_within (n - i) classes (Some c) ≡ c ∷ chain_within (n - (i + 1)) classes (parent_of classes c)
chain_within-step classes n i c less =
    let more : n - i ≡ suc (n - (i + 1)) = omega arith in
    ap (λ m. chain_within m classes (Some c)) more

pub chain_within-end : (classes : Classes) (n i : ℕ) (from : Option ℕ) → n ≤ i → chain_within (n - i) classes from ≡ []
chain_within-end classes n i from most =
    let none : n - i ≡ 0 = omega arith in
    ap (λ m. chain_within m classes from) none

pub chain_within-none : (classes : Classes) (m : ℕ) → chain_within m classes None ≡ []
chain_within-none classes zero = refl
chain_within-none classes (suc m) = refl

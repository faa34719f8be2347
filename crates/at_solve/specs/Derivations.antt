-- What is derived of conditions.
use Rattle.std.specs.Prelude.{◌≡◌, ℕ, List, [], ◌∷◌, None, Some, slice_get}
use Rattle.at_solve.specs.declared.condition.Condition.{Condition}
use Rattle.at_solve.specs.declared.condition.Condition.TheVariants.{Always, Never, When, Both, Either}

-- the condition at the position has a finite derivation
pub data Derives (system : List Condition) : ℕ → Type 0 where
  always : (p : ℕ) → slice_get system p ≡ Some Always → Derives system p
  follows : (p q : ℕ) → slice_get system p ≡ Some (When q) → Derives system q → Derives system p
  by_both : (p q r : ℕ) → slice_get system p ≡ Some (Both q r) → Derives system q → Derives system r → Derives system p
  by_one : (p q r : ℕ) → slice_get system p ≡ Some (Either q r) → Derives system q → Derives system p
  by_other : (p q r : ℕ) → slice_get system p ≡ Some (Either q r) → Derives system r → Derives system p

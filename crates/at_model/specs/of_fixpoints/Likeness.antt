-- Two trees whose nodes are related, and what is alike in them where attributes are circular.
use Rattle.std.specs.Prelude.{◌≡◌, ℕ}
use Rattle.at_model.specs.Run.{Value, Instance, Location, Contents}
use Rattle.at_model.specs.Alike.{ValueLike, InstanceLike, RunLike, AlikeAt}
use Rattle.at_model.specs.of_fixpoints.Formulas.{Formula, Known, Asks, Both, Either, Forms}
use Rattle.at_model.specs.of_fixpoints.Resting.{Supports}

-- the same formula, of related instances
pub data FormulaLike {N M : Type 0} (R : N → M → Type 0) : Formula N → Formula M → Type 0 where
  known_like : {v : Value N} {w : Value M} → ValueLike R v w → FormulaLike R (Known v) (Known w)
  asks_like : {i : Instance N} {j : Instance M} → InstanceLike R i j → FormulaLike R (Asks i) (Asks j)
  both_like : {f g : Formula N} {h k : Formula M} → FormulaLike R f h → FormulaLike R g k →
      FormulaLike R (Both f g) (Both h k)
  either_like : {f g : Formula N} {h k : Formula M} → FormulaLike R f h → FormulaLike R g k →
      FormulaLike R (Either f g) (Either h k)

-- the same attributes are circular, and like instances have equations that go alike
pub record FormsLike {N M : Type 0} (R : N → M → Type 0) (forms : Forms N) (other : Forms M) : Type 0 where
  pub starts : (attribute : ℕ) → forms.starts attribute ≡ other.starts attribute
  pub formulas : (i : Instance N) (j : Instance M) → InstanceLike R i j →
      RunLike R (FormulaLike R) (forms.formula i) (other.formula j)

-- the two trees are alike at all that supports the instance
abbrev pub AlikeBelow : {N M : Type 0} → (N → M → Type 0) → Contents N → Contents M → Forms N → Instance N → Type 0
AlikeBelow {N} R look also forms i = (l : Location N) → Supports look forms l i → AlikeAt R look also l

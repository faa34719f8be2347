-- That what is known holds, where attributes are circular.
use Rattle.std.specs.Prelude.{◌≡◌, ℕ, Some}
use Rattle.at_model.specs.Run.{Value, Instance, Contents, Known}
use Rattle.at_model.specs.Rules.{Rules}
use Rattle.at_model.specs.of_fixpoints.FormKinds.{AreBoolean}
use Rattle.at_model.specs.of_fixpoints.Fixpoints.{HasValue}
use Rattle.at_model.specs.of_fixpoints.Formulas.{Forms}
use Rattle.at_rules.specs.Circular.{AreCircularLazy}

-- what is known holds
abbrev pub AreRightValues : Contents ℕ → Forms ℕ → Known ℕ → Type 0
AreRightValues look forms known = (j : Instance ℕ) (v : Value ℕ) → known j ≡ Some v → HasValue look forms j v

-- circular attributes are lazy, and boolean
pub record AreCircularWell (rules : Rules) : Type 0 where
  pub lazy : AreCircularLazy rules
  pub boolean : AreBoolean rules

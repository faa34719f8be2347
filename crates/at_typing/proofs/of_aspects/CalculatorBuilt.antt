-- The declarations of the calculator: what they mean, and that nothing is wrong with them.
use Rattle.std.proofs.Common.{◌≡◌, List, None, Ok, refl, sym, subst}
use Rattle.at_model.specs.Classes.{chain}
use Rattle.at_model.specs.Rules.{Rules, AreComplete}
use Rattle.at_model.specs.Samples.{calc, calc_classes}
use Rattle.at_model.proofs.SampleRules.{calc_well_formed}
use Rattle.at_text.specs.declared.place.Place.{Place}
use Rattle.at_typing.specs.Building.{Builds, IsFault, IsLack, first_fault, rules_of}
use Rattle.at_typing.specs.Declaring.{max_attributes, max_text}
use Rattle.at_typing.specs.Located.{Located}
use Rattle.at_typing.specs.Ruling.{max_parameters}
use Rattle.at_typing.specs.SampleCalculator.{calculator}
use Rattle.at_typing.proofs.of_aspects.MeaningsFound.{covers_none, lacks_none}
use Rattle.at_kinds.specs.declared.arguments.Arguments.TheVariants.{Given}

pub calculator_means : (at : Place) → rules_of Given calc_classes (calculator at) ≡ calc
unfolding chain max_attributes max_text max_parameters
calculator_means at = refl

calculator_faultless : (at : Place) → first_fault Given calc_classes (calculator at) ≡ None
unfolding chain max_attributes max_text max_parameters
calculator_faultless at = refl

-- complete rules lack nothing
lacks_nothing : (rules : Rules) (ds : List Located) → AreComplete rules → IsLack rules ds None
lacks_nothing rules ds complete =
    (None, (None, lacks_none rules complete.synthesized, refl), (None, covers_none rules complete.inherited, refl))

pub calculator_built : (at : Place) → Builds Given calc_classes (calculator at) (Ok calc)
calculator_built at =
    let ds = calculator at in
    let means = sym (calculator_means at) in (
      subst (λ first. IsFault Given calc_classes ds first None) (sym (calculator_faultless at))
          (subst (λ rules. IsLack rules ds None) means (lacks_nothing calc ds calc_well_formed.complete)),
      means,
    )

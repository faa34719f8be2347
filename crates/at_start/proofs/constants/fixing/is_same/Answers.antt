use Rattle.std.proofs.Common.{arith, ◌∙◌, sym}
use Rattle.std.proofs.lemmas.Bool.Decides.{nat_tests}
use Rattle.at_class.specs.Fixing.{fixed_view}
use Rattle.at_start.proofs.PlantingFixes.{fixed_same}
use Rattle.at_start.proofs.constants.fixing.is_same.Goals as goal

pub returns : goal.returns
returns c same =
    fixed_same (fixed_view c.args.fix.now) (fixed_view c.args.other.now) (grind (arith, nat_tests)) (grind (arith, nat_tests))
    (sym c.is_same.ensures ∙ same)

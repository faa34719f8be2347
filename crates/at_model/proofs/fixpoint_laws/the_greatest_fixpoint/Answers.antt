use Rattle.std.specs.Prelude.{◌≡◌, true}
use Rattle.at_model.proofs.of_formulas.FixpointValues.{greatest}
use Rattle.at_model.proofs.fixpoint_laws.the_greatest_fixpoint.Goals as goal

pub returns : goal.returns
returns c look forms set stands i v e h x = greatest look forms (λ k. set k ≡ true) true stands i v e h x

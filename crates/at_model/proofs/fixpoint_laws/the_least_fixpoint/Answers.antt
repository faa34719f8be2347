use Rattle.std.specs.Prelude.{◌≡◌, false, true}
use Rattle.at_model.proofs.of_formulas.FixpointValues.{smallest}
use Rattle.at_model.proofs.fixpoint_laws.the_least_fixpoint.Goals as goal

pub returns : goal.returns
returns c look forms set shut i e x = smallest look forms (λ k. set k ≡ true) false shut i e x

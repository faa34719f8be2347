use Rattle.at_model.proofs.of_formulas.Solved.{component_valued}
use Rattle.at_model.proofs.fixpoint_laws.a_component_has_values.Goals as goal

pub returns : goal.returns
returns c look forms all whole j start a e = component_valued look forms all whole j start a e

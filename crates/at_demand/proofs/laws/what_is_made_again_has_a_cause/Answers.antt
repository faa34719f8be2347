use Rattle.at_demand.proofs.of_traces.MadeAgain.{made_for_a_cause}
use Rattle.at_demand.proofs.laws.what_is_made_again_has_a_cause.Goals as goal

pub returns : goal.returns
returns c = λ old new later es w x i t before among. made_for_a_cause old i t before new later es w x among

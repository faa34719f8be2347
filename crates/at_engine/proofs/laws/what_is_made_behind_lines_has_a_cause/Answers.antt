use Rattle.at_demand.proofs.of_traces.MadeAgain.{made_for_a_cause}
use Rattle.at_engine.specs.Making.{questions_of}
use Rattle.at_engine.specs.Stepping.{edits_in}
use Rattle.at_engine.proofs.of_keeping.GoneOn.{went_over}
use Rattle.at_engine.proofs.laws.what_is_made_behind_lines_has_a_cause.Goals as goal

pub returns : goal.returns
returns g c old new by later x i t before among =
    let k = g.K.Keeper.contents in
    let m = g.K.Keeper.memories in
    let es = edits_in k m old new by in
    let w = went_over k m old new by in
    (w, made_for_a_cause (questions_of k m old) i t before (questions_of k m new) later es w x among)

use Rattle.at_protocol.specs.LineView.{arguments_view, place_view}
use Rattle.at_engine.specs.Seen.{state_seen}
use Rattle.at_engine.proofs.Questions.{asked_nowhere}
use Rattle.at_engine.proofs.engine.view.View.asked.Goals as goal

pub returns-in-None : goal.returns-in-None
returns-in-None g c named =
    let v = c.args.self.now in
    asked_nowhere v.rules.now (state_seen v.store.now (g.M.Lookup.marks v.marks.now)) c.args.session (place_view c.args.place.now) c.args.attribute.now (arguments_view c.args.arguments.now) c.in-None.ensures

pub returns-in-Some : goal.returns-in-Some
returns-in-Some g c named = c.asked_of.ensures (place_view c.args.place.now) c.in-Some.ensures named

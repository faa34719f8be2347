use Rattle.at_protocol.specs.LineView.{place_view}
use Rattle.at_engine.specs.Holding.{state_in}
use Rattle.at_engine.proofs.Commands.{drop_is, drop_nowhere}
use Rattle.at_engine.proofs.engine.view.View.drop_node.Goals as goal

pub returns-in-None : goal.returns-in-None
returns-in-None g c = λ version posts.
    let v = c.args.self.now in
    drop_nowhere v.rules.now (state_in v.store.now version (g.M.Lookup.marks v.marks.now) posts) c.args.session (place_view c.args.place.now) c.in-None.ensures

pub returns-in-Some : goal.returns-in-Some
returns-in-Some g c =
    let v = c.args.self.now in
    let (n, named, p) = c.in-Some.ensures in
    record {
      node = n;
      target = n;
      found = p;
      there = p;
      meant = λ version posts. drop_is v.rules.now (state_in v.store.now version (g.M.Lookup.marks v.marks.now) posts) c.args.session (place_view c.args.place.now) n named;
    }

use Rattle.std.proofs.Common.{refl, subst}
use Rattle.at_model.specs.Classes.{Classes}
use Rattle.at_model.specs.Paths.{Path}
use Rattle.at_protocol.specs.LineView.{place_view}
use Rattle.at_store.specs.Led.{Led}
use Rattle.at_store.specs.Shown.{numbers}
use Rattle.at_engine.specs.Seen.{state_seen}
use Rattle.at_engine.specs.Naming.{steps_of}
use Rattle.at_engine.proofs.NamingLemmas.{named_led, named_nowhere}
use Rattle.at_engine.proofs.engine.view.View.node_named.Goals as goal

pub returns-in_err-from : goal.returns-in_err-from
returns-in_err-from g c =
    let v = c.args.self.now in
    rw c.from_residual.ensures (named_nowhere v.rules.now.classes (state_seen v.store.now (g.M.Lookup.marks v.marks.now)) c.args.session (place_view c.args.place.now) c.in_err-from.ensures)

pub returns : goal.returns
returns g c =
    let v = c.args.self.now in
    let place = place_view c.args.place.now in
    let nodes = numbers v.store.now in
    named_led v.rules.now.classes v.store.now (state_seen v.store.now (g.M.Lookup.marks v.marks.now)) refl c.args.session place c.in_ok-from.from c.resolve.result c.in_ok-from.ensures
    (λ n u p at'. subst (λ (x : Classes). Led nodes x n u (steps_of place) c.resolve.result) c.classes.ensures (subst (λ (ss : Path). Led nodes c.classes.result.now n u ss c.resolve.result) c.steps_of.ensures (c.resolve.ensures n u p at')))

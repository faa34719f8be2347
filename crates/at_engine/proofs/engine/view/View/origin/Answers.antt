use Rattle.std.proofs.Common.{ℕ, [], List, Option, Some, refl, sym, subst}
use Rattle.at_model.specs.Machine.{marked}
use Rattle.at_protocol.specs.LineView.{place_view}
use Rattle.at_protocol.specs.declared.line.Place.{Place}
use Rattle.at_engine.specs.Seen.{state_seen}
use Rattle.at_engine.specs.Naming.{IsNumberOf, origin_of}
use Rattle.at_engine.proofs.NamingLemmas.{marked_number}
use Rattle.at_engine.proofs.engine.view.View.origin.Goals as goal

pub returns-in-FromRoot : goal.returns-in-FromRoot
returns-in-FromRoot g c =
    let v = c.args.self.now in
    subst (λ (p : Place). IsNumberOf v.store.now (origin_of (state_seen v.store.now (g.M.Lookup.marks v.marks.now)) c.args.session (place_view p)) (Some c.root.result)) (sym c.in-FromRoot.is) ([], refl, c.root.ensures)

pub returns-in-FromMark : goal.returns-in-FromMark
returns-in-FromMark g c =
    let v = c.args.self.now in
    let name = c.as_str.result.now in
    let all = marked_number v.store.now c.args.session name (g.M.Lookup.marks v.marks.now) v.there in
    let found = subst (λ (o : Option ℕ). IsNumberOf v.store.now (marked (state_seen v.store.now (g.M.Lookup.marks v.marks.now)).marks c.args.session name) o) (sym c.get.ensures) all in
    let spelled = subst (λ (text : List ℕ). IsNumberOf v.store.now (marked (state_seen v.store.now (g.M.Lookup.marks v.marks.now)).marks c.args.session text) c.get.result) c.as_str.ensures.value found in
    subst (λ (p : Place). IsNumberOf v.store.now (origin_of (state_seen v.store.now (g.M.Lookup.marks v.marks.now)) c.args.session (place_view p)) c.get.result) (sym c.in-FromMark.is) spelled

use Rattle.at_evict.proofs.Common.{◌∙◌, ℕ, List, ap, refl, slice_get, sym, node_there}
use Rattle.at_evict.proofs.of_folding.Gathering.{lone_has}
use Rattle.at_evict.proofs.lone.Lone.has.Goals as goal

pub returns-in-Some : goal.returns-in-Some
returns-in-Some c there into lone t =
    let at = c.in-Some.ensures.lookup in
    lone_has there into c.args.self.now.none c.args.self.now.stamps.items c.args.edge c.in-Some.stamp.now lone
    (ap (λ (xs : List ℕ). slice_get xs c.args.edge.slot) (sym c.deref.ensures.value) ∙ node_there c.deref.result.now c.args.edge.slot c.args.edge.slot c.in-Some.stamp.now refl at.0 at.1)
    c.if-edge-self.false t

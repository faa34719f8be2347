use Rattle.at_evict.proofs.Common.{◌∙◌, ℕ, List, ap, refl, slice_get, sym, not-true, node_there}
use Rattle.at_evict.proofs.of_folding.Gathering.{lone_stays}
use Rattle.at_evict.proofs.lone.Lone.is_at.Goals as goal

pub returns-in-Some : goal.returns-in-Some
returns-in-Some c there into lone t =
    let at = c.in-Some.ensures.lookup in
    lone_stays there into c.args.self.now.none c.args.self.now.stamps.items c.args.slot c.in-Some.stamp.now lone
    (ap (λ (xs : List ℕ). slice_get xs c.args.slot) (sym c.deref.ensures.value) ∙ node_there c.deref.result.now c.args.slot c.args.slot c.in-Some.stamp.now refl at.0 at.1)
    (not-true _ t)

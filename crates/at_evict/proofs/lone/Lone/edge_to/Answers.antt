use Rattle.at_evict.proofs.Common.{◌∙◌, ℕ, List, ap, refl, slice_get, sym, node_there}
use Rattle.at_evict.proofs.lone.Lone.edge_to.Goals as goal

pub returns : goal.returns
returns c there into lone =
    let at = c.in-Some.ensures.lookup in (
      refl,
      (lone c.args.slot c.in-Some.stamp.now
          (ap (λ (xs : List ℕ). slice_get xs c.args.slot) (sym c.deref.ensures.value) ∙ node_there c.deref.result.now c.args.slot c.args.slot c.in-Some.stamp.now refl at.0 at.1)
          c.if-stamp-self.false).0,
    )

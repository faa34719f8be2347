use Rattle.at_evict.proofs.Common.{◌∙◌, arith, refl, subst, take_all, Added, memory_of, edges_along}
use Rattle.at_evict.proofs.of_folding.Parting.{added_none, added_push}
use Rattle.at_evict.proofs.refolding.Refolding.add_edges_to.Goals as goal

pub loop-number-init : goal.loop-number-init
loop-number-init c = record { slots = refl; len = refl; added = added_none _ _ }

pub loop-number-preserved : goal.loop-number-preserved
loop-number-preserved c = record {
  slots = c.add_edge_into.ensures.slots ∙ c.loop-number.invariant.slots;
  len = rw c.add_edge_into.ensures.slots c.loop-number.invariant.len;
  added = added_push _ _ c.args.room.now.slots.items c.loop-number.number _ _
      (omega (arith, c.loop-number-test.true, c.len-number-end.ensures, c.args.room.now.slots.ok.0))
      (rw c.loop-number.invariant.slots at c.index-slot.ensures) (c.in_ok-add_edge_into.ensures.added _ _ c.loop-number.invariant.added);
}

pub returns : goal.returns
returns c =
    subst (λ xs. Added (memory_of c.args.self.now.entries.now) (edges_along c.args.rows.now.items) xs (edges_along c.loop-number.rows.items))
    (take_all c.loop-number.number c.args.room.now.slots.items
    (omega (arith, c.loop-number-test.false, c.len-number-end.ensures, c.args.room.now.slots.ok.0))) c.loop-number.invariant.added

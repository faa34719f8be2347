use Rattle.at_evict.proofs.Common.{arith, refl}
use Rattle.at_evict.proofs.of_folding.Nodes.{facets_refolded}
use Rattle.at_evict.proofs.of_folding.Places.{below_end, below_more, below_start}
use Rattle.at_evict.proofs.refolding.Refolding.rewrite_node.Goals as goal

pub loop-place-init : goal.loop-place-init
loop-place-init c = below_start _

pub rewrite_at-requires : goal.rewrite_at-requires
rewrite_at-requires c = omega (arith, c.loop-place-test.true, c.loop-place.invariant.len, c.len-place-end.ensures.value)

pub loop-place-preserved : goal.loop-place-preserved
loop-place-preserved c = below_more c.loop-place.invariant c.in_ok-rewrite_at.ensures.here c.rewrite_at.ensures.others c.rewrite_at.ensures.len

pub returns : goal.returns
returns c = facets_refolded _ _ _ _ (below_end c.loop-place.invariant (omega (arith, c.loop-place-test.false, c.len-place-end.ensures.value)) refl)

use Rattle.at_evict.proofs.Common.{arith, refl}
use Rattle.at_evict.proofs.of_folding.AtDesks.{all_desks_refolded}
use Rattle.at_evict.proofs.of_folding.Places.{below_end, below_more, below_start}
use Rattle.at_evict.proofs.refolding.Refolding.rewrite_desks.Goals as goal

pub loop-place-init : goal.loop-place-init
loop-place-init c = below_start _

pub rewrite_desks_at-requires : goal.rewrite_desks_at-requires
rewrite_desks_at-requires c = omega (arith, c.loop-place-test.true, c.loop-place.invariant.len, c.len-place-end.ensures.len)

pub loop-place-preserved : goal.loop-place-preserved
loop-place-preserved c =
    below_more c.loop-place.invariant c.in_ok-rewrite_desks_at.ensures.here c.rewrite_desks_at.ensures.others c.rewrite_desks_at.ensures.len

pub returns : goal.returns
returns c = all_desks_refolded _ _ _ _ (below_end c.loop-place.invariant (omega (arith, c.loop-place-test.false, c.len-place-end.ensures.len)) refl)

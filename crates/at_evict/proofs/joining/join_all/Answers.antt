use Rattle.at_evict.proofs.of_folding.Joined.{same_none, same_then}
use Rattle.at_evict.proofs.joining.join_all.Goals as goal

pub loop-place-init : goal.loop-place-init
loop-place-init c = same_none _

pub loop-place-preserved : goal.loop-place-preserved
loop-place-preserved c = same_then c.loop-place.invariant c.goes.ensures.same

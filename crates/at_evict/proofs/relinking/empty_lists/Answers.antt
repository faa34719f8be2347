use Rattle.at_evict.proofs.Common.{ap, slots_at}
use Rattle.at_evict.proofs.of_folding.Linking.{none_pushed}
use Rattle.at_evict.proofs.relinking.empty_lists.Goals as goal

pub loop-init : goal.loop-init
loop-init c r = ap (λ ls. slots_at ls r) c.in_ok-lists.ensures.items

pub loop-preserved : goal.loop-preserved
loop-preserved c = none_pushed c.loop.lists.items _ c.new.result c.in_ok-push.ensures.items c.new.ensures.items c.loop.invariant

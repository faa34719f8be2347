use Rattle.at_evict.proofs.Common.{◌≡◌, false, take, list_any, is_as_wide}
use Rattle.at_evict.proofs.rerunning.is_over.Given as goal

abbrev pub invariant-loop-other : goal.invariant-loop-other
invariant-loop-other l = list_any (λ q. is_as_wide q l.reach) (take l.other-index l.edges) ≡ false

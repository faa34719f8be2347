use Rattle.at_evict.proofs.Common.{◌≡◌, false, nat_eq, take, list_any}
use Rattle.at_evict.proofs.folding.has.Given as goal

abbrev pub invariant-loop-other : goal.invariant-loop-other
invariant-loop-other l = list_any (nat_eq l.slot) (take l.other-index l.slots) ≡ false

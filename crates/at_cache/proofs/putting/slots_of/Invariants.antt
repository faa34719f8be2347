use Rattle.at_cache.proofs.Common.{take, memory_of, AreTaken, AreTheirs}
use Rattle.at_cache.proofs.putting.slots_of.Given as goal

abbrev pub invariant-loop-used : goal.invariant-loop-used
invariant-loop-used l = record {
  taken : AreTaken (memory_of l.entries) l.slots.items;
  theirs : AreTheirs l.entries (take l.used-index l.uses) l.slots.items;
}

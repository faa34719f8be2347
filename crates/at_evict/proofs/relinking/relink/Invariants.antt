use Rattle.at_evict.proofs.Common.{get, listed_at, slots_at, memory_of}
use Rattle.at_evict.proofs.of_folding.Relinking.{RelinksBelow}
use Rattle.at_evict.proofs.relinking.relink.Given as goal

abbrev pub invariant-loop-place : goal.invariant-loop-place
invariant-loop-place l = RelinksBelow (slots_at l.plan) (listed_at (get l.initial.entries.places) l.links) l.taken l.place
    (memory_of l.initial.entries) (memory_of l.entries)

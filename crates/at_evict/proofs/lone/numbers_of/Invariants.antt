use Rattle.at_evict.proofs.Common.{AreLone, slots_at, memory_of, is_current}
use Rattle.at_evict.proofs.lone.numbers_of.Given as goal

abbrev pub invariant-loop-slot : goal.invariant-loop-slot
invariant-loop-slot l = AreLone (is_current (memory_of l.entries)) (slots_at l.plan) l.none l.numbers.items

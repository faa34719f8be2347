use Rattle.at_cache.proofs.Common.{◌≤◌, memory_of, table_len}
use Rattle.at_cache.proofs.of_cut.Shed.{ShedsBelow}
use Rattle.at_cache.proofs.shedding.shed.Given as goal

abbrev pub invariant-loop-slot : goal.invariant-loop-slot
invariant-loop-slot l = ShedsBelow l.standings l.slot (memory_of l.initial.entries) (memory_of l.entries) × (table_len l.entries ≤ table_len l.initial.entries)

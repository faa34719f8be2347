use Rattle.at_cache.proofs.of_cut.Shed.{LosesBelow}
use Rattle.at_cache.proofs.shedding.lose_traces.Given as goal

abbrev pub invariant-loop-number : goal.invariant-loop-number
invariant-loop-number l = LosesBelow l.number l.initial.standings.items l.standings.items

use Rattle.at_evict.proofs.Common.{List, Seat, into_of, memory_of, IsRerun, AreSeated}
use Rattle.at_evict.proofs.of_folding.Places.{Below}
use Rattle.at_evict.proofs.refolding.Refolding.rerun.Given as goal

abbrev pub invariant-loop-number : goal.invariant-loop-number
invariant-loop-number l = record {
  below : Below (IsRerun (memory_of l.self.entries.now) (into_of l.self)) l.number l.initial.runs.items l.runs.items;
  seated : (seats : List Seat) → AreSeated seats l.initial.runs.items → AreSeated seats l.runs.items;
}

use Rattle.at_evict.proofs.Common.{ℕ, Bool, List, length, Edge, AreLone, edges_of}
use Rattle.at_evict.proofs.of_folding.Gathering.{AreAloneBut}
use Rattle.at_evict.proofs.lone.Lone.has_row.Given as goal

abbrev pub invariant-loop-edge : goal.invariant-loop-edge
invariant-loop-edge l = (there : Edge → Bool) (into : ℕ → List ℕ) → AreLone there into l.self.none l.self.stamps.items
    → AreAloneBut there into (edges_of l.row) (edges_of l.rest)

abbrev pub decreases-loop-edge : goal.decreases-loop-edge
decreases-loop-edge l = length (edges_of l.rest)

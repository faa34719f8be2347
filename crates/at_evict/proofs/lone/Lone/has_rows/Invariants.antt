use Rattle.at_evict.proofs.Common.{ℕ, Bool, List, take, Edge, AreAlone, AreLone, edges_along}
use Rattle.at_evict.proofs.lone.Lone.has_rows.Given as goal

abbrev pub invariant-loop-row : goal.invariant-loop-row
invariant-loop-row l = (there : Edge → Bool) (into : ℕ → List ℕ) → AreLone there into l.self.none l.self.stamps.items
    → AreAlone there into (edges_along (take l.row-index l.rows))

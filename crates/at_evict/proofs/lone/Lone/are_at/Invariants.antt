use Rattle.at_evict.proofs.Common.{ℕ, Bool, List, Contains, take, Edge, AreLone, Stays}
use Rattle.at_evict.proofs.lone.Lone.are_at.Given as goal

abbrev pub invariant-loop-slot : goal.invariant-loop-slot
invariant-loop-slot l = (there : Edge → Bool) (into : ℕ → List ℕ) → AreLone there into l.self.none l.self.stamps.items
    → (p : ℕ) → Contains (take l.slot-index l.slots) p → Stays into p

use Rattle.at_evict.proofs.Common.{◌≡◌, ℕ, Contains, Some, take, FoldsAt, into_of, Info, memory_of}
use Rattle.at_evict.proofs.refolding.Refolding.is_sound.Given as goal

abbrev pub invariant-loop-slot : goal.invariant-loop-slot
invariant-loop-slot l = (s : ℕ) → Contains (take l.slot-index l.taken) s → (e : Info) → memory_of l.self.entries.now s ≡ Some e
    → FoldsAt (memory_of l.self.entries.now) (into_of l.self) s e

-- What entries are folded with.
use Rattle.std.specs.Prelude.{ℕ, List, Bool}
use Rattle.at_index.specs.declared.edge.Edge.{Edge}
use Rattle.at_evict.specs.declared.refolding.Refolding.{Refolding}
use Rattle.at_cache.specs.Info.{memory_of}
use Rattle.at_cache.specs.Putting.{is_current}
use Rattle.at_evict.specs.Folding.{Refolded, slots_at}

-- whether the edge tells of an entry
abbrev pub is_told : Refolding → Edge → Bool
is_told f = is_current (memory_of f.entries.now)

-- into which entries the one in the slot is folded
abbrev pub into_of : Refolding → ℕ → List ℕ
into_of f = slots_at f.plan.now

-- the new list tells of those into which the entries are folded of which the old one told
abbrev pub refolds : Refolding → (old new : List Edge) → Type 0
refolds f = Refolded (is_told f) (into_of f)

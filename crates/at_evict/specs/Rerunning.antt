-- Edges of runs that tell of entries which are folded.
use Rattle.std.specs.Prelude.{◌≡◌, ◌&&◌, ◌⊎◌, ℕ, List, [], Bool, true, not, Option, None, Some, Contains, if◌then◌else◌, nat_lt}
use Rattle.at_index.specs.declared.edge.Edge.{Edge}
use Rattle.at_index.specs.declared.run.Reach.{Reach}
use Rattle.at_index.specs.declared.run.Run.{Run}
use Rattle.at_evict.specs.Folding.{Refolded}
use Rattle.at_cache.specs.Info.{Memory}
use Rattle.at_cache.specs.Putting.{is_current}
use Rattle.at_index.specs.Edges.{same_edge}
use Rattle.at_index.specs.Runs.{edges_past}

-- into which the entry is folded that the edge tells of, if it tells of one
abbrev pub targets_of : (there : Edge → Bool) → (into : ℕ → List ℕ) → Edge → List ℕ
targets_of there into x = if there x then into x.slot else []

-- whether q tells of the same entry as r, over that part of the run or more
abbrev pub is_as_wide : Reach → Reach → Bool
is_as_wide q r = same_edge q.edge r.edge && (not (nat_lt r.behind q.behind) && not (nat_lt q.last r.last))

-- one of these does
abbrev pub IsOver : Reach → List Reach → Type 0
IsOver r edges = (q : Reach) × Contains edges q × (is_as_wide q r ≡ true)

-- The new list has one that tells of the same as r, over that part of the run or more, and none beside the old one's but r.
pub record Covers (r : Reach) (old new : List Reach) : Type 0 where
  pub kept : (q : Reach) → Contains old q → Contains new q
  pub over : IsOver r new
  pub from : (q : Reach) → Contains new q → Contains old q ⊎ (q ≡ r)

-- The new list has those of the old one, and over that part of the run edges to the entries in the slots, and no others.
pub record Reaches (m : Memory) (slots : List ℕ) (r : Reach) (old new : List Reach) : Type 0 where
  pub kept : (q : Reach) → Contains old q → Contains new q
  pub has : (y : Edge) → Contains slots y.slot → is_current m y ≡ true → IsOver (record r { edge = y }) new
  pub from : (q : Reach) → Contains new q
      → Contains old q ⊎ ((is_current m q.edge ≡ true) × Contains slots q.edge.slot × (q.behind ≡ r.behind) × (q.last ≡ r.last))

-- none of the new list goes further than each of the old one
abbrev pub GoNoFurther : (old new : List Reach) → Type 0
GoNoFurther old new = (q : Reach) → Contains new q → (r : Reach) × Contains old r × (q.last ≡ r.last)

-- The edges over each place are refolded.
pub record AreRerun (m : Memory) (into : ℕ → List ℕ) (old new : List Reach) : Type 0 where
  pub over : (p : ℕ) → Refolded (is_current m) into (edges_past p old) (edges_past p new)
  pub further : GoNoFurther old new

-- so are those of a run
abbrev pub IsRerun : (m : Memory) → (into : ℕ → List ℕ) → Option Run → Option Run → Type 0
IsRerun m into None o = o ≡ None
IsRerun m into (Some r) o = (q : Run) × (o ≡ Some q) × AreRerun m into r.edges.items q.edges.items

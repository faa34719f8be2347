-- Desks whose edges tell of entries which are folded.
use Rattle.std.specs.Prelude.{◌≡◌, ℕ, List, Bool, Option, None, Some}
use Rattle.at_model.specs.Run.{Location}
use Rattle.at_index.specs.declared.desk.Desks.{Desks}
use Rattle.at_index.specs.declared.desk.Spot.{Spot}
use Rattle.at_index.specs.declared.edge.Edge.{Edge}
use Rattle.at_index.specs.declared.edge.Edges.{Edges}
use Rattle.at_index.specs.Desks.{edges_in_desks}
use Rattle.at_index.specs.Edges.{edges_in}
use Rattle.at_evict.specs.Folding.{Refolded}

-- what stands at a place of the desks of a node is of the same drawer, with edges to those into which entries are folded
abbrev pub IsDeskRefolded : (there : Edge → Bool) → (into : ℕ → List ℕ) → Option (Spot × Edges) → Option (Spot × Edges) → Type 0
IsDeskRefolded there into None o = o ≡ None
IsDeskRefolded there into (Some d) o = (e : Spot × Edges) × (o ≡ Some e) × (e.0 ≡ d.0) × Refolded there into (edges_in d.1) (edges_in e.1)

-- the same of all of a node
abbrev pub AreDesksRefolded : (there : Edge → Bool) → (into : ℕ → List ℕ) → (old new : List (Spot × Edges)) → Type 0
AreDesksRefolded there into old new = (n : ℕ) (l : Location ℕ) → Refolded there into (edges_in_desks n old l) (edges_in_desks n new l)

-- what stands at a place of all desks is of the same node, and so
abbrev pub IsNodeOfDesks : (there : Edge → Bool) → (into : ℕ → List ℕ) → Option (ℕ × Desks) → Option (ℕ × Desks) → Type 0
IsNodeOfDesks there into None o = o ≡ None
IsNodeOfDesks there into (Some d) o = (e : ℕ × Desks) × (o ≡ Some e) × (e.0 ≡ d.0) × AreDesksRefolded there into d.1.spots.entries e.1.spots.entries

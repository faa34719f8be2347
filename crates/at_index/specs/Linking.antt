-- One edge more of a list, which may lose those that tell of no entry.
use Rattle.std.specs.Prelude.{◌≡◌, ◌⊎◌, ◌++◌, ◌∷◌, [], ℕ, List, Bool, true, Some, Contains, slice_get, slice_set}
use Rattle.at_index.specs.declared.edge.Edge.{Edge}
use Rattle.at_index.specs.declared.edge.Edges.{Edges}
use Rattle.at_index.specs.declared.facet.Facet.{Facet}
use Rattle.at_index.specs.declared.facet.Readers.{Readers}
use Rattle.at_index.specs.Edges.{edges_in}

-- The new list has all edges of the old one that tell of an entry, and none beside them but this one.
pub record Lists (tells : Edge → Bool) (x : Edge) (old new : List Edge) : Type 0 where
  pub keeps : (y : Edge) → Contains old y → tells y ≡ true → Contains new y
  pub only : (y : Edge) → Contains new y → Contains old y ⊎ (y ≡ x)

-- The new list has all of the old one that tell of an entry, and none beside them.
pub record Keeps {X : Type 0} (tells : X → Bool) (old new : List X) : Type 0 where
  pub keeps : (x : X) → Contains old x → tells x ≡ true → Contains new x
  pub from : (x : X) → Contains new x → Contains old x

-- The new lists have all edges of the old ones that tell of an entry, and this one at these locations; none beside them.
pub record Reads {L : Type 0} (tells : Edge → Bool) (x : Edge) (locations : List L) (old new : L → List Edge) : Type 0 where
  pub keeps : (l : L) (y : Edge) → Contains (old l) y → tells y ≡ true → Contains (new l) y
  pub only : (l : L) (y : Edge) → Contains (new l) y → Contains (old l) y ⊎ ((y ≡ x) × Contains locations l)

-- at each of these locations it stands
abbrev pub AreListed : {L : Type 0} → Edge → List L → (L → List Edge) → Type 0
AreListed {L} x locations lists = (l : L) → Contains locations l → Contains (lists l) x

abbrev pub with_edges : Edges → Readers → Readers
with_edges edges r = record r { edges = edges }

-- of the edges of what stands at the place, these have all that tell of an entry, and none beside them but this one
abbrev pub ListsAt : (Edge → Bool) → Edge → ℕ → List Readers → (edges : List Edge) → Type 0
ListsAt tells x p rs edges = (r : Readers) → slice_get rs p ≡ Some r → Lists tells x (edges_in r.edges) edges

-- what stands at the place is changed so
abbrev pub HasChanged : (Readers → Readers) → ℕ → (old new : List Readers) → Type 0
HasChanged f p old new = (r : Readers) → slice_get old p ≡ Some r → new ≡ slice_set old p (f r)

-- behind the others stands this facet, with this edge alone
abbrev pub HasAdded : Facet → Edge → (old new : List Readers) → Type 0
HasAdded facet x old new = (r : Readers) × (new ≡ old ++ r ∷ []) × (r.facet ≡ facet) × (edges_in r.edges ≡ x ∷ [])

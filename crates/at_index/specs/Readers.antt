-- Who read which location.
use Rattle.std.specs.Prelude.{◌≡◌, ◌<◌, ◌+◌, ◌*◌, ◌&&◌, ◌⊎◌, ℕ, Bool, true, false, List, [], Option, None, Some, Contains, if◌then◌else◌, length, nat_eq, slice_get}
use Rattle.std.specs.Int.{bit_at}
use Rattle.std.specs.List.{flat_map}
use Rattle.smallvec.specs.SmallVec.{SmallVec}
use Rattle.at_model.specs.Run.{Location, Is, Tok, Slot, Up, Idx, Drawer}
use Rattle.at_index.specs.declared.edge.Edge.{Edge}
use Rattle.at_index.specs.declared.facet.Facet.{Facet}
use Rattle.at_index.specs.declared.facet.Facet.TheVariants as facet
use Rattle.at_index.specs.declared.facet.Readers.{Readers}
use Rattle.at_index.specs.Edges.{edges_in}
use Rattle.at_index.specs.Sameness.{node_at, same_location}

-- whether the number is in the set
abbrev pub has_number : (set number : ℕ) → Bool
has_number set number = nat_eq (bit_at set number) 1

-- The number of a location among those of its node: 0 of the class, 1 of the parent, and then in turn those of tokens and of components.
-- An index has none, and a drawer neither.
abbrev pub number_of : Location ℕ → Option ℕ
number_of (Is n) = Some 0
number_of (Up n) = Some 1
number_of (Tok n part) = Some (2 * part + 2)
number_of (Slot n part) = Some (2 * part + 3)
number_of (Idx n) = None
number_of (Drawer n part key mark) = None

-- whether the number of the location is in the set
abbrev pub is_near : ℕ → Location ℕ → Bool
is_near set l = elim (number_of l) [ None ↦ false | Some number ↦ has_number set number ]

-- whether the facet of the node stands for the location
abbrev pub stands_for : ℕ → Facet → Location ℕ → Bool
stands_for node (facet.Near set) l = is_near set l && nat_eq (node_at l) node
stands_for node (facet.Tok part) l = same_location l (Tok node part)
stands_for node (facet.Slot part) l = same_location l (Slot node part)
stands_for node facet.Idx l = same_location l (Idx node)

-- whether it is the index
abbrev pub is_of_index : Facet → Bool
is_of_index (facet.Near set) = false
is_of_index (facet.Tok part) = false
is_of_index (facet.Slot part) = false
is_of_index facet.Idx = true

-- The facet of the node stands for those at the front of the locations, of which these are left.
pub record IsFirst (locations : List (Location ℕ)) (node : ℕ) (f : Facet) (left : List (Location ℕ)) : Type 0 where
  pub from : (l : Location ℕ) → stands_for node f l ≡ true → Contains locations l
  pub all : (l : Location ℕ) → Contains locations l → (stands_for node f l ≡ true) ⊎ Contains left l
  pub rest : (l : Location ℕ) → Contains left l → Contains locations l
  pub fewer : length left < length locations
  pub index : (n : ℕ) → stands_for node f (Idx n) ≡ true → slice_get locations 0 ≡ Some (Idx n)

-- the edges of a location, of these facets of the node
abbrev pub edges_among : ℕ → List Readers → Location ℕ → List Edge
edges_among node rs l = flat_map (λ r. if stands_for node r.facet l then edges_in r.edges else []) rs

-- the edges of a location
abbrev pub edges_at : List (SmallVec Readers) → Location ℕ → List Edge
edges_at readers l = elim (slice_get readers (node_at l)) [ None ↦ [] | Some v ↦ edges_among (node_at l) v.items l ]

-- What is asked of nodes, all of their facets or the index alone.
use Rattle.std.specs.Prelude.{◌≡◌, ◌&&◌, ◌⊎◌, ℕ, List, Bool, true, false, nat_eq, Contains}
use Rattle.std.specs.List.{list_any}
use Rattle.at_model.specs.Run.{Location, Is, Tok, Slot, Up, Idx, Drawer}
use Rattle.at_store.specs.declared.node.Loc.{Loc}
use Rattle.at_store.specs.Located.{loc_view}
use Rattle.at_index.specs.declared.edge.Edge.{Edge}
use Rattle.at_index.specs.declared.scope.Scope.{Scope}
use Rattle.at_index.specs.declared.scope.Scope.TheVariants as scope
use Rattle.at_index.specs.Sameness.{node_at}
use Rattle.at_index.specs.Edges.{is_listed}

abbrev pub is_index : Location ℕ → Bool
is_index (Is n) = false
is_index (Tok n part) = false
is_index (Slot n part) = false
is_index (Up n) = false
is_index (Idx n) = true
is_index (Drawer n part key mark) = false

-- whether a location is in the scope
abbrev pub looks_at : Scope → Location ℕ → Bool
looks_at scope.All l = true
looks_at scope.Index l = is_index l

-- whether it is in that scope of the node
abbrev pub sees : Scope → (node : ℕ) → Location ℕ → Bool
sees s node l = nat_eq node (node_at l) && looks_at s l

-- The edges of the start are those of locations with the answer `true`, and each other location that is seen has the answer
-- `false`, or no edge beside them.
pub record Asked (says : Location ℕ → Bool → Type 0) (seen : Location ℕ → Bool) (lists : Location ℕ → List Edge) (start : List Edge) : Type 0 where
  pub from : (x : Edge) → Contains start x → (l : Location ℕ) × says l true × Contains (lists l) x
  pub all : (l : Location ℕ) → seen l ≡ true → says l false ⊎ ((x : Edge) → Contains (lists l) x → Contains start x)

-- each node of which an entry read the index is one of these
abbrev pub AreNoted : (lists : Location ℕ → List Edge) (nodes : List ℕ) → Type 0
AreNoted lists nodes = (n : ℕ) (x : Edge) → is_listed x (lists (Idx n)) ≡ true → list_any (nat_eq n) nodes ≡ true

-- a closure may give the answer for the location
abbrev pub Answers : (post : Loc → Bool → Type 0) → Location ℕ → Bool → Type 0
Answers post l b = (x : Loc) × (loc_view x ≡ l) × post x b

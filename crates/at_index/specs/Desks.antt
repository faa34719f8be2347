-- Desks: who read which drawer of a node.
use Rattle.std.specs.Prelude.{ℕ, Bool, ◌&&◌, List, [], None, Some, if◌then◌else◌, nat_eq}
use Rattle.std.specs.List.{flat_map}
use Rattle.std.specs.Map.{lookup}
use Rattle.at_class.specs.Keys.{key_view}
use Rattle.at_model.specs.Run.{Location, Is, Tok, Slot, Up, Idx, Drawer}
use Rattle.at_index.specs.declared.desk.Desks.{Desks}
use Rattle.at_index.specs.declared.desk.Spot.{Spot}
use Rattle.at_index.specs.declared.edge.Edge.{Edge}
use Rattle.at_index.specs.declared.edge.Edges.{Edges}
use Rattle.at_index.specs.Edges.{edges_in}
use Rattle.at_index.specs.Sameness.{same_location}

-- the drawer of the node
abbrev pub drawer_at : ℕ → Spot → Location ℕ
drawer_at n s = Drawer n s.part (key_view (record { first = s.first; token = s.token; classes = s.classes })) s.mark

-- whether it is the same drawer of a node
abbrev pub same_spot : Spot → Spot → Bool
same_spot s r =
    nat_eq s.part r.part && (nat_eq s.first r.first && (nat_eq s.token r.token
    && (nat_eq s.classes r.classes && nat_eq s.mark r.mark)))

-- the edges of a location, of these desks of the node
abbrev pub edges_in_desks : ℕ → List (Spot × Edges) → Location ℕ → List Edge
edges_in_desks node ds l = flat_map (λ d. if same_location l (drawer_at node d.0) then edges_in d.1 else []) ds

-- The edges of a drawer; other locations have none of these.
abbrev pub desk_edges : List (ℕ × Desks) → Location ℕ → List Edge
desk_edges all (Is n) = []
desk_edges all (Tok n part) = []
desk_edges all (Slot n part) = []
desk_edges all (Up n) = []
desk_edges all (Idx n) = []
desk_edges all (Drawer n part key mark) =
    elim (lookup (nat_eq n) all) [ None ↦ [] | Some d ↦ edges_in_desks n d.spots.entries (Drawer n part key mark) ]

-- Edges that lie in a row, and rows of them.
use Rattle.std.specs.Prelude.{ℕ, zero, suc, ◌+◌, ◌*◌, ◌%◌, ◌^◌, List, [], ◌∷◌}
use Rattle.std.specs.List.{flat_map}
use Rattle.at_index.specs.declared.edge.Edge.{Edge}
use Rattle.at_index.specs.declared.row.Row.{Row}

-- the edge at that place of a row that begins with this one, in the room that a slot and a number have
abbrev pub edge_at : (first : Edge) (step : ℕ) → ℕ → Edge
edge_at first step place = record { slot = (first.slot + place * step) % 2 ^ 32; stamp = (first.stamp + place * step) % 2 ^ 64 }

-- so many edges of such a row, from that place on
unfoldable pub edges_from : (first : Edge) (step : ℕ) → ℕ → ℕ → List Edge
edges_from first step place zero = []
edges_from first step place (suc n) = edge_at first step place ∷ edges_from first step (suc place) n

-- the edge with which it begins
abbrev pub first_of : Row → Edge
first_of r = record { slot = r.slot; stamp = r.stamp }

-- its edges, in order
abbrev pub edges_of : Row → List Edge
edges_of r = edges_from (first_of r) r.step 0 r.count

-- the edges of rows, in order
abbrev pub edges_along : List Row → List Edge
edges_along rs = flat_map edges_of rs

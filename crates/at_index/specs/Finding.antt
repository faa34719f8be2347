-- From a location to the entries that read it.
use Rattle.std.specs.Prelude.{ℕ, List, ◌++◌}
use Rattle.smallvec.specs.SmallVec.{SmallVec}
use Rattle.at_model.specs.Run.{Location}
use Rattle.at_index.specs.declared.desk.Desks.{Desks}
use Rattle.at_index.specs.declared.edge.Edge.{Edge}
use Rattle.at_index.specs.declared.facet.Readers.{Readers}
use Rattle.at_index.specs.declared.run.AllReaders.{AllReaders}
use Rattle.at_index.specs.Desks.{desk_edges}
use Rattle.at_index.specs.Readers.{edges_at}
use Rattle.at_index.specs.Runs.{edges_over}

-- The edges of a location of its own: those of its desk, where it is a drawer, and those of facets of its node.
abbrev pub own_edges : List (ℕ × Desks) → List (SmallVec Readers) → Location ℕ → List Edge
own_edges desks own l = desk_edges desks l ++ edges_at own l

-- the edges of a location, its own and those over the seat of its node
abbrev pub edges_to : AllReaders → Location ℕ → List Edge
edges_to rs l = own_edges rs.desks.entries rs.own.items l ++ edges_over rs.seats.items rs.runs.items l

-- Edges, and those of a list, in order.
use Rattle.std.specs.Prelude.{Bool, List, [], ◌&&◌, nat_eq}
use Rattle.std.specs.List.{list_any}
use Rattle.at_index.specs.declared.edge.Edge.{Edge}
use Rattle.at_index.specs.declared.edge.Edges.{Edges}
use Rattle.at_index.specs.declared.edge.Edges.TheVariants as edges
use Rattle.at_index.specs.Rows.{edges_along, edges_from}

abbrev pub edges_in : Edges → List Edge
edges_in edges.Empty = []
edges_in (edges.Few count step slot stamp) = edges_from (record { slot = slot; stamp = stamp }) step 0 count
edges_in (edges.More rows) = edges_along rows.value.items

abbrev pub same_edge : Edge → Edge → Bool
same_edge x y = nat_eq x.slot y.slot && nat_eq x.stamp y.stamp

abbrev pub is_listed : Edge → List Edge → Bool
is_listed x edges = list_any (same_edge x) edges

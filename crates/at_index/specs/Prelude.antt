-- The names that most contracts of this crate cite, passed on from one place.
pub use Rattle.at_index.specs.Asking.{Answers, AreNoted, looks_at}
pub use Rattle.at_index.specs.Edges.{edges_in, same_edge}
pub use Rattle.at_index.specs.Linking.{AreListed, HasAdded, HasChanged, Keeps, Lists, ListsAt, Reads, with_edges}
pub use Rattle.at_index.specs.Readers.{IsFirst, edges_among, edges_at, is_of_index, number_of, stands_for}
pub use Rattle.at_index.specs.Rows.{edge_at, edges_along, edges_from, edges_of, first_of}
pub use Rattle.at_index.specs.Runs.{Adds, AddsReads, AreApart, AreGiven, ArePast, AreSeated, Follows, Gains, HoldsReach, IsFree, KeepsRuns, ListsBut, Lose, SitsAt, Stays, count_of, edges_on, edges_over, is_live, is_within, lies}
pub use Rattle.at_index.specs.Sameness.{node_at, same_location}
pub use Rattle.at_index.specs.declared.edge.Edge.{Edge}
pub use Rattle.at_index.specs.declared.edge.Edges.{Edges}
pub use Rattle.at_index.specs.declared.run.Seat.{Seat}
pub use Rattle.at_model.specs.Run.{Idx, Location, Slot, Tok}
pub use Rattle.at_store.specs.Located.{loc_view}

-- The names that most contracts of this crate cite, passed on from one place.
pub use Rattle.at_body.specs.Same.{same_instance}
pub use Rattle.at_body.specs.Values.{value_view}
pub use Rattle.at_cache.specs.Flushing.{IsIdle, Work, doomed, is_fresh}
pub use Rattle.at_cache.specs.Info.{Info, Memory, info, is_going, memory_of, next_of, table_len}
pub use Rattle.at_cache.specs.Kept.{AreKept, AreNamed}
pub use Rattle.at_cache.specs.Marking.{GoesOn, GoesOver, HasMark, Passes, TakesAway, held_count, held_in, unmarked}
pub use Rattle.at_cache.specs.Putting.{AreTaken, Enters, Uses, fresh_entry, is_current, reused, users_at}
pub use Rattle.at_cache.specs.Shedding.{AreHeld, FoldsHeld, LosesTraces, Sheds, ShedsAt, kept_cut}
pub use Rattle.at_cache.specs.Standings.{IsChanged, alive_in, held, held_among, held_of, is_alive, remembered, standing_of, unheld, untraced}
pub use Rattle.at_cache.specs.Theirs.{AreTheirs, HasSlot}
pub use Rattle.at_index.specs.Asking.{Answers, AreNoted, looks_at, sees}
pub use Rattle.at_index.specs.Edges.{edges_in}
pub use Rattle.at_index.specs.Finding.{edges_to}
pub use Rattle.at_index.specs.Rows.{edges_along, edges_of}
pub use Rattle.at_index.specs.declared.edge.Edge.{Edge}
pub use Rattle.at_model.specs.Run.{Instance, Location}
pub use Rattle.at_store.specs.Located.{loc_view}
pub use Rattle.std.specs.Map.{lookup}

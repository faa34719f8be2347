-- The names that most contracts of this crate cite, passed on from one place.
pub use Rattle.at_cache.specs.Info.{Info, Memory, memory_of}
pub use Rattle.at_cache.specs.Putting.{is_current}
pub use Rattle.at_cache.specs.Recorded.{IsIndexed, edge_to}
pub use Rattle.at_evict.specs.Folding.{Added, AreAlone, AreLinks, AreLone, AreOrdered, AreRefolded, AreTaken, FoldsAt, Gathered, HasLinked, HasSame, HasUser, IsBelow, IsLone, IsRefolded, IsRelinked, Linked, LinkedTo, Parted, Relinks, RelinksAt, Remains, RemovesAt, Stays, listed_at, slots_at}
pub use Rattle.at_evict.specs.Refolding.{into_of, is_told, refolds}
pub use Rattle.at_index.specs.Edges.{edges_in}
pub use Rattle.at_index.specs.Rows.{edges_along, edges_of}
pub use Rattle.at_index.specs.declared.edge.Edge.{Edge}
pub use Rattle.at_model.specs.Run.{Location}
pub use Rattle.slab.specs.Slab.{get}
pub use Rattle.std.specs.List.{list_any}

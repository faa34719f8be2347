-- The names that most proofs of this crate cite, passed on from one place.
pub use Rattle.std.proofs.Common.{Bool, Contains, IfNone, IfSome, IsPermutation, List, None, OnOk, OnSome, Option, Result, Some, [], ap, append-nil, append_assoc, arith, cond, eqb, eqb-true, false, get_or, if◌then◌else◌, inl, inr, is_some, length, length-set, nat_eq, nat_lt, not, option_map, refl, replicate, slice_get, slice_set, subst, suc, swap_remove, sym, take, take_all, true, true≢false, zero, ℕ, ◌&&◌, ◌++◌, ◌+◌, ◌-◌, ◌<◌, ◌^◌, ◌||◌, ◌∙◌, ◌∷◌, ◌≡◌, ◌≤◌, ◌⊎◌}
pub use Rattle.at_evict.specs.Prelude.{Added, AreAlone, AreLinks, AreLone, AreOrdered, AreRefolded, AreTaken, Edge, FoldsAt, Gathered, HasLinked, HasSame, HasUser, Info, IsBelow, IsIndexed, IsLone, IsRefolded, IsRelinked, Linked, LinkedTo, Location, Memory, Parted, Relinks, RelinksAt, Remains, RemovesAt, Stays, edge_to, edges_along, edges_in, edges_of, get, into_of, is_current, is_told, list_any, listed_at, memory_of, slots_at}
pub use Rattle.at_cache.proofs.Common.{AreHeld, AreNoted, Contains-append_cases, Contains-append_left, Contains-append_right, Contains-cons, Contains-cons_cases, Contains-push_cases, Drawer, Entries, Idx, Instance, Is, Lists, Memories, Slot, SmallVec, StayTraced, Tok, Up, agree, and_from, any_of, both, cases_eq, cases_lt, covers, desk_edges, drawer_at, edges_among, edges_at, edges_in_desks, edges_on, edges_over, edges_past, edges_to, eq-eqb, get_or_from_slice_get, get_push, got, has, head_of, held, info, is_in, is_listed, is_seen, lookup, ne_eqb, node_at, node_there, none-some, none_in, not-true, on_ok_weaker, option_and_then, or_cases, or_left, or_right, relinked, reused, same_Some, same_edge, same_location, shown, slice_get_within, some_of, standing_of, take_more, users_at, with_users}
pub use Rattle.at_index.proofs.Common.{AreSeated, Contains-permutation, Contains-push, IsPermutation-swap_remove, IsPermutation-sym, get_or_default, le-ltb, lies, ltb-false, own_edges, slice_get_read, stands_for}
pub use Rattle.at_cache.proofs.Index.{Index, Standing, kept_at, standing}
pub use Rattle.at_cache.proofs.Moving.{at_none, one_slot, past, stayed, table_by}
pub use Rattle.at_cache.proofs.Users.{current, told_of}
pub use Rattle.at_cache.specs.declared.entry.Entry.{Entry}
pub use Rattle.at_cache.specs.declared.table.Table.{Table}
pub use Rattle.at_evict.specs.Desks.{AreDesksRefolded, IsDeskRefolded, IsNodeOfDesks}
pub use Rattle.at_evict.specs.Folding.{Folded, Folds, HasUsed, IsLeft, IsNodeRefolded, Refolded, Rewritten, Tells}
pub use Rattle.at_evict.specs.Joining.{AreJoint, HaveSame, Joins}
pub use Rattle.at_evict.specs.Rerunning.{AreRerun, Covers, GoNoFurther, IsOver, IsRerun, Reaches, is_as_wide, targets_of}
pub use Rattle.at_index.proofs.Gained.{get_other, get_same}
pub use Rattle.at_index.proofs.Lists.{get_contains}
pub use Rattle.at_index.proofs.RowLists.{along_end, along_from, along_has, along_to}
pub use Rattle.at_index.specs.declared.edge.Edges.{Edges}
pub use Rattle.at_index.specs.declared.facet.Readers.{Readers}
pub use Rattle.at_index.specs.declared.row.Row.{Row}
pub use Rattle.at_index.specs.declared.run.Reach.{Reach}
pub use Rattle.at_index.specs.declared.run.Seat.{Seat}
pub use Rattle.indexmap.proofs.CallerLemmas.{index_map_len-with_value_at}
pub use Rattle.smallvec.proofs.SmallVecLemmas.{items-with_items}
pub use Rattle.std.proofs.lemmas.List.{length_push}
pub use Rattle.std.proofs.lemmas.Result.{err_from_is_err_and}
pub use Rattle.std.specs.List.{dedup}

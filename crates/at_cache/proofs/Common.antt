-- The names that most proofs of this crate cite, passed on from one place.
pub use Rattle.std.proofs.Common.{Bool, Contains, Err, IfNone, IfSome, IsSome, List, None, Ok, OnErr, OnOk, OnSome, Option, Result, Some, [], ap, append-nil, append_assoc, arith, cond, drop, eqb-true, false, get_or, if◌then◌else◌, inl, inr, is_some, length, map, min, nat_eq, nat_lt, not, option_map, refl, rules, slice_get, slice_index_or, slice_set, subst, suc, swap_remove, sym, take, take_all, true, true≢false, zero, ℕ, ◌&&◌, ◌*◌, ◌++◌, ◌+◌, ◌-◌, ◌<◌, ◌^◌, ◌||◌, ◌∙◌, ◌∷◌, ◌≡◌, ◌≤◌, ◌⊎◌}
pub use Rattle.at_cache.specs.Prelude.{Answers, AreHeld, AreKept, AreNamed, AreNoted, AreTaken, AreTheirs, Edge, Enters, GoesOn, GoesOver, HasMark, HasSlot, Info, Instance, IsChanged, IsIdle, Location, LosesTraces, Memory, Passes, Sheds, ShedsAt, TakesAway, Uses, Work, alive_in, doomed, edges_along, edges_in, edges_of, edges_to, fresh_entry, held, held_among, held_count, held_in, held_of, info, is_alive, is_current, is_fresh, is_going, kept_cut, loc_view, looks_at, lookup, memory_of, next_of, remembered, reused, same_instance, sees, standing_of, table_len, unheld, unmarked, untraced, users_at, value_view}
pub use Rattle.at_index.proofs.Common.{AreListed, Asked, Contains-append_cases, Contains-append_left, Contains-append_right, Contains-cons, Contains-cons_cases, Contains-push_cases, Drawer, Idx, IfOk-weaker, Is, Lists, Reads, Slot, SmallVec, Tok, Up, and_from, and_parts, both, cases_Bool, cases_eq, cases_lt, desk_edges, drawer_at, edges_among, edges_at, edges_in_desks, edges_on, edges_over, edges_past, eq-eqb, get_or_from_slice_get, is_index, is_listed, is_of_index, is_seen, list_any, lt-ltb, ltb-true, ne_eqb, node_at, none-some, on_ok_weaker, or_cases, or_left, or_right, same_Some, same_edge, same_location, slice_get_within, take_more}
pub use Rattle.at_body.proofs.SamenessLemmas.{same_true}
pub use Rattle.at_body.specs.Sameness.{instances_equiv}
pub use Rattle.at_cache.specs.Attributes.{HaveCome, has_come}
pub use Rattle.at_cache.specs.Blocking.{Follows, IsFirstOpen, LeadsTo, is_known, is_valued}
pub use Rattle.at_cache.specs.Flushing.{Begins, IsChain, IsDoomed, IsSame, Reached, by_start, by_user, dooms, first_after}
pub use Rattle.at_cache.specs.Kept.{Entries, KeepsAll, Kept, LeavesUntouched, LosesTouched, Puts, PutsBy, covered, covered_by, covers_at, value_at}
pub use Rattle.at_cache.specs.Marking.{Aside, IsQuiet, Untraces, aside_cut, beside, of_trace, of_value, stamps_of}
pub use Rattle.at_cache.specs.Placed.{IsMoved, IsPlaced, at}
pub use Rattle.at_cache.specs.Putting.{with_users}
pub use Rattle.at_cache.specs.Recorded.{IsIndexed, covers, edge_to, is_used}
pub use Rattle.at_cache.specs.Renewing.{Compares, EntersHeld, IsAnother, IsAwaited, IsSlotFor, IsUser, PutsIn, StaysAwaited}
pub use Rattle.at_cache.specs.Settling.{AreTraces, CanKeep, HasSettled, IsWhole, Settles}
pub use Rattle.at_cache.specs.Shedding.{Shrinks, remembered_cut}
pub use Rattle.at_cache.specs.Slots.{HasWritten, outdated, relinked, renewed, with_entry, with_list, with_mark, with_number, with_rest}
pub use Rattle.at_cache.specs.Standings.{AreValued, IsTied, alive, instances_in, is_tied, kept_held, last_of, shape, shown, trace_at, trace_of}
pub use Rattle.at_cache.specs.Traced.{AreAlike, AreAllKept, FlushesTraces, IsNext, IsOutdated, IsSpared, IsStill, IsTraceOf, KeepsTrace, Memories, PutsTrace, Settled, SparesAtEdit, SparesOthers, StayTraced, Trace, TracesKept, below, itself, nothing, one_more}
pub use Rattle.at_cache.specs.declared.cut.Cut.{Cut}
pub use Rattle.at_cache.specs.declared.entry.Entry.{Entry}
pub use Rattle.at_cache.specs.declared.keep_recorded.KeepRecorded.{KeepRecorded}
pub use Rattle.at_cache.specs.declared.keeper.Order.{Order}
pub use Rattle.at_cache.specs.declared.mark.Mark.{Mark}
pub use Rattle.at_cache.specs.declared.standing.Standing.{Standing}
pub use Rattle.at_cache.specs.declared.table.Table.{Table}
pub use Rattle.at_index.proofs.Beginning.{among_others, asked_both, asked_next_touched, asked_next_untouched, asked_none}
pub use Rattle.at_index.proofs.Listed.{edges_are, no_edges}
pub use Rattle.at_index.proofs.Listing.{has, is_in, listed_more, listed_one, lists_moved, lists_same, reads_all, reads_more, reads_none}
pub use Rattle.at_index.proofs.Lists.{agree, any_of, any_same, get_left, get_push, get_seam, got, head_of, node_past, node_there, none_in, some_of}
pub use Rattle.at_index.proofs.Locations.{same_location-is, same_location-itself}
pub use Rattle.at_index.proofs.of_runs.Over.{either_empty, not_seen, on_nowhere, over_at, over_none, over_touched, over_untouched, over_none as seat_none, seen_node as seen_at}
pub use Rattle.at_index.specs.declared.facet.Readers.{Readers}
pub use Rattle.at_index.specs.declared.run.AllReaders.{AllReaders}
pub use Rattle.at_index.specs.declared.run.Seat.{Seat}
pub use Rattle.at_model.specs.Run.{Value}
pub use Rattle.at_store.specs.Places.{is_drawer_at, is_index_among, is_node, named, names_around}
pub use Rattle.at_store.specs.declared.places.Places.{Places}
pub use Rattle.indexmap.specs.Layout.{length-set_value_at, set_value_at}
pub use Rattle.slab.specs.Slab.{get}
pub use Rattle.std.proofs.lemmas.Bool.{false_from_ne_true, not-false, not-true}
pub use Rattle.std.proofs.lemmas.List.Elements.{Contains-get_or}
pub use Rattle.std.specs.List.{IsDistinct}
pub use Rattle.std.specs.Map.{keys_of}
pub use Rattle.std.specs.Option.{option_and_then}

-- The names that most proofs of this crate cite, passed on from one place.
pub use Rattle.std.proofs.Common.{Bool, Bor, Contains, Err, IfSome, IsPermutation, IsTrue, List, None, Ok, OnErr, OnOk, Option, Result, Some, [], add-suc, add-zero, add_assoc, add_comm, ap, append-nil, append_assoc, arith, bit_or, cond, div-add-mod', drop, eqb-true, false, get_or, if◌then◌else◌, inl, inr, length, length-set, map, max, mod-eq_of_lt, mod-lt, nat_eq, nat_lt, not, one-mul, refl, rules, slice_get, slice_set, subst, suc, suc-add, suc-mul, swap_remove, sym, take, take-append-drop, take_all, true, true≢false, zero, zero-add, zero-mul, ℕ, ⊎_elim, ◌%◌, ◌&&◌, ◌*◌, ◌++◌, ◌+◌, ◌-◌, ◌/◌, ◌<◌, ◌^◌, ◌||◌, ◌∙◌, ◌∷◌, ◌≡◌, ◌≤◌, ◌⊎◌}
pub use Rattle.at_index.specs.Prelude.{Adds, AddsReads, Answers, AreApart, AreGiven, AreListed, AreNoted, ArePast, AreSeated, Edge, Edges, Follows, Gains, HasAdded, HasChanged, HoldsReach, Idx, IsFirst, IsFree, Keeps, KeepsRuns, Lists, ListsAt, ListsBut, Location, Lose, Reads, Seat, SitsAt, Slot, Stays, Tok, count_of, edge_at, edges_along, edges_among, edges_at, edges_from, edges_in, edges_of, edges_on, edges_over, first_of, is_live, is_of_index, is_within, lies, loc_view, looks_at, node_at, number_of, same_edge, same_location, stands_for, with_edges}
pub use Rattle.at_index.specs.Asking.{Asked, is_index, sees}
pub use Rattle.at_index.specs.Desks.{desk_edges, drawer_at, edges_in_desks}
pub use Rattle.at_index.specs.Edges.{is_listed}
pub use Rattle.at_index.specs.Finding.{edges_to, own_edges}
pub use Rattle.at_index.specs.Readers.{has_number, is_near}
pub use Rattle.at_index.specs.Runs.{edges_past, is_reached, is_seen}
pub use Rattle.at_index.specs.Sameness.{form_of, marks_at, part_at}
pub use Rattle.at_index.specs.contracts.desk.SpotPartialEq.TheImpl.{ghosts}
pub use Rattle.at_index.specs.declared.facet.Facet.{Facet}
pub use Rattle.at_index.specs.declared.facet.Readers.{Readers}
pub use Rattle.at_index.specs.declared.row.Row.{Row}
pub use Rattle.at_index.specs.declared.run.Reach.{Reach}
pub use Rattle.at_index.specs.declared.run.Run.{Run}
pub use Rattle.at_model.proofs.Options.{both}
pub use Rattle.at_model.specs.Run.{Drawer, Is, Up}
pub use Rattle.at_store.specs.declared.node.Loc.{Loc}
pub use Rattle.slab.proofs.SlabLemmas.{Contains-cons, Contains-cons_cases}
pub use Rattle.smallvec.specs.SmallVec.{SmallVec}
pub use Rattle.std.proofs.lemmas.Bool.{and_from, and_parts, cases_Bool, cases_eq, cases_lt, eq-eqb, le-ltb, lt-ltb, ltb-false, ltb-true, ne_eqb, or_cases, or_left, or_right}
pub use Rattle.std.proofs.lemmas.List.{get_or_default, map-append, take_more, take_more_same}
pub use Rattle.std.proofs.lemmas.List.Concat.{flat_map-append}
pub use Rattle.std.proofs.lemmas.List.Elements.{Contains-append_cases, Contains-append_left, Contains-append_right, Contains-push, Contains-push_cases}
pub use Rattle.std.proofs.lemmas.List.Sorted.{Contains-permutation, IsPermutation-swap_remove, IsPermutation-sym}
pub use Rattle.std.proofs.lemmas.Nat.Bits.{bit_at-lt, bit_at-pow_other, bit_at-pow_same, bit_at_above, bit_at_or, shr_and_one}
pub use Rattle.std.proofs.lemmas.Option.{IfSome_then, get_or_from_slice_get, none-some, same_Some, slice_get_past, slice_get_read, slice_get_within}
pub use Rattle.std.proofs.lemmas.Result.{IfOk-weaker, on_ok_weaker}
pub use Rattle.std.specs.List.{flat_map, list_any}
pub use native.Mathlib.Nat.{mod-add-mod}

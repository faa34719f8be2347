use Rattle.std.proofs.Common.{◌≡◌, ℕ, suc, ◌+◌, nat_eq, cond, length, map, Option, None, Some, refl, sym, ap, ◌∙◌, subst, arith, inl, inr, true, false, option_map}
use Rattle.std.specs.List.{slice_get}
use Rattle.std.proofs.lemmas.Bool.{eq-eqb, ne_eqb, cases_eq}
use Rattle.std.proofs.lemmas.Option.{slice_get-map, slice_get-get_or}
use Rattle.slab.specs.Slab.{Slab, Updates}
use Rattle.at_model.specs.Trees.{from_cells, cells_of}
use Rattle.at_tree.specs.Token.{token_view}
use Rattle.at_store.specs.declared.entry.Entry.{Entry}
use Rattle.at_store.specs.Memory.{Info, Token_of, IsFreedTo, kept, kept_of, reindexed}
use Rattle.at_store.specs.View.{info, info_of, kept_view, marked, leaves_in, stored_of, viewed}
use Rattle.at_store.proofs.Slots.{map_length}
use Rattle.at_store.proofs.of_planting.Freeing.{spread_root, spread_whole, cell_done, child_freed, root_cells, none_stored}
use Rattle.at_store.proofs.plant.+free.Goals as goal

next : (n : ℕ) → suc n ≡ n + 1
next n = omega arith

removed : (f : ℕ → Option (ℕ × ℕ) → ℕ → ℕ) (old new : Slab Entry) (node : ℕ) → Updates old new node None → (k : ℕ) → viewed f new k ≡ cond (nat_eq k node) None (viewed f old k)
removed f old new node u k =
    elim (cases_eq k node) [
      | inl p ↦ rw (eq-eqb k node p) (rw p (ap (λ o. reindexed f node (info_of o)) u.changed))
      | inr q ↦ rw (ne_eqb k node q) (ap (λ o. reindexed f k (info_of o)) (u.others k q))
    ]

unmarked : (old new : Slab Entry) (node : ℕ) → Updates old new node None → (k : ℕ) → leaves_in new k ≡ true → leaves_in old k ≡ true
unmarked old new node u k e =
    elim (cases_eq k node) [
      | inl p ↦ (let f : false ≡ true = sym (ap marked u.changed) ∙ ap (leaves_in new) (sym p) ∙ e in absurd cc)
      | inr q ↦ sym (ap marked (u.others k q)) ∙ e
    ]

abbrev as_viewed : (f : ℕ → Option (ℕ × ℕ) → ℕ → ℕ) (k : ℕ) → Info → Info
as_viewed f k i = record i { index = f k i.up i.index }

pub free-loop-slot-init : goal.free-loop-slot-init
free-loop-slot-init t c = record {
  fewer = omega (arith, c.in-Some.ensures.len);
  cells = (
    info c.in-Some.entry,
    ap (stored_of c.args.slab.now) (sym c.index.ensures) ∙ ap info_of
        (sym c.try_remove.ensures.value ∙ c.in-Some.is),
    ap (map kept_view) (sym c.as_slice-slot-items.ensures),
  );
  freed = λ f place x same apart stored. spread_root None _ _ x (λ k. removed f _ _ _ c.try_remove.ensures.updates k
      ∙ ap (λ n. cond (nat_eq k n) None (viewed f c.args.slab.now k)) (c.index.ensures ∙ sym same));
  marks = unmarked _ _ _ c.try_remove.ensures.updates;
}

pub free-loop-slot-preserved : goal.free-loop-slot-preserved
free-loop-slot-preserved t c =
    let inv = c.loop-slot.invariant in
    record {
      fewer = omega (arith, c.free_slot.ensures.fewer, inv.fewer);
      cells = inv.cells;
      freed = λ f place x same apart stored.
          let kept_is : kept_of x ≡ map kept_view c.as_slice-slot-items.result.now =
          root_cells _ place x (as_viewed f c.args.node inv.cells.0) stored
          (ap (viewed f c.args.slab.now) same ∙ ap (reindexed f c.args.node) inv.cells.1) ∙ inv.cells.2 in
          let cell : slice_get (kept_of x) c.loop-slot.slot-index ≡ Some (kept_view c.slot-item.result) =
          ap (λ cs. slice_get cs c.loop-slot.slot-index) kept_is ∙ slice_get-map kept_view _ c.loop-slot.slot-index
          ∙ ap (option_map kept_view) (slice_get-get_or _ c.loop-slot.slot-index c.slot-item.result
          c.loop-slot-test.true ∙ ap Some (sym c.slot-item.is)) in
          subst (λ (i : ℕ). IsFreedTo (viewed f c.args.slab.now) (viewed f c.free_slot.new.slab) x (i, 0))
          (next c.loop-slot.slot-index) (c.free_slot.ensures.freed f _ place x c.loop-slot.slot-index apart stored
          cell (inv.freed f place x same apart stored));
      marks = λ k e. inv.marks k (c.free_slot.ensures.marks k e);
    }

pub free-returns-after-loop-slot-clause-freed : goal.free-returns-after-loop-slot-clause-freed
free-returns-after-loop-slot-clause-freed t c = λ f place x same apart stored.
    let inv = c.loop-slot.invariant in
    let kept_is : kept_of x ≡ map kept_view c.as_slice-slot-items.result.now =
    root_cells _ place x (as_viewed f c.args.node inv.cells.0) stored
    (ap (viewed f c.args.slab.now) same ∙ ap (reindexed f c.args.node) inv.cells.1) ∙ inv.cells.2 in
    let long : length (from_cells (cells_of x)) ≡ length c.as_slice-slot-items.result.now = sym (map_length kept
    (from_cells (cells_of x))) ∙ ap length kept_is ∙ map_length kept_view c.as_slice-slot-items.result.now in
    spread_whole None _ _ x c.loop-slot.slot-index (omega (arith, long, c.loop-slot-test.false)) (inv.freed f place x same apart stored)

pub free-returns-in_default-clause-freed : goal.free-returns-in_default-clause-freed
free-returns-in_default-clause-freed t c = λ f place x same apart stored.
    absurd (none_stored _ place x stored (ap (viewed f c.args.slab.now) (same ∙ sym c.index.ensures)
    ∙ ap (λ o. reindexed f c.index.result (info_of o)) (sym c.try_remove.ensures.value ∙ c.in_default.is)))

pub free_slot-loop-kid-preserved : goal.free_slot-loop-kid-preserved
free_slot-loop-kid-preserved t c =
    let inv = c.loop-kid.invariant in
    record {
      fewer = omega (arith, c.free.ensures.fewer, inv.fewer);
      kids = inv.kids;
      within = omega (arith, c.loop-kid-test.true);
      freed = λ f before place x part apart stored cell start.
          subst (λ (i : ℕ). IsFreedTo before (viewed f c.free.new.slab) x (part, i)) (next c.loop-kid.kid-index)
          (child_freed before _ (viewed f c.free.new.slab) place x part c.loop-kid.kid-index _ _ apart stored cell
          (ap (λ ns. slice_get ns c.loop-kid.kid-index) inv.kids ∙ slice_get-get_or _ c.loop-kid.kid-index
          c.kid-item.result c.loop-kid-test.true ∙ ap Some (sym c.kid-item.is))
          (inv.freed f before place x part apart stored cell start) (c.free.ensures.freed f));
      marks = λ k e. inv.marks k (c.free.ensures.marks k e);
    }

pub free_slot-returns-after-loop-kid-clause-freed : goal.free_slot-returns-after-loop-kid-clause-freed
free_slot-returns-after-loop-kid-clause-freed t c = λ f before place x part apart stored cell start.
    let inv = c.loop-kid.invariant in
    cell_done None before _ x part c.loop-kid.kid-index _ cell (ap length inv.kids ∙ omega (arith, inv.within, c.loop-kid-test.false)) (inv.freed f before place x part apart stored cell start)

pub free_slot-returns-in_default-clause-freed : goal.free_slot-returns-in_default-clause-freed
free_slot-returns-in_default-clause-freed t c =
    λ f before place x part apart stored cell start. cell_done None before _ x part 0
    (Token_of (token_view c.in_default.field-0)) (cell ∙ ap (λ s. Some (kept_view s)) c.in_default.is) refl start

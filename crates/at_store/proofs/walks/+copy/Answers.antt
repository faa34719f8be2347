use Rattle.std.proofs.Common.{◌∙◌, ◌-◌, ap, sym, arith, map, []}
use Rattle.std.proofs.lemmas.List.{take_all}
use Rattle.at_model.specs.Trees.{Node as branch, Filled, One, to_cells}
use Rattle.at_tree.proofs.Made.{made_tree, made_filled}
use Rattle.at_tree.specs.TreeView.{cell_view}
use Rattle.at_store.specs.Grown.{grown_cell, shown_below}
use Rattle.at_store.specs.Memory.{Kids, cells_in}
use Rattle.at_store.specs.View.{form_view, kept_view, memory_of}
use Rattle.at_store.proofs.of_planting.Copied.{no_level, level_above, filled_first, one_first, made_one, copied_on}
use Rattle.at_store.proofs.walks.+copy.Goals as goal

pub tree_at-returns-then-levels-eq0 : goal.tree_at-returns-then-levels-eq0
tree_at-returns-then-levels-eq0 t c =
    let memory = memory_of c.args.slab.now in
    made_tree c.class_at-class.result c.new-cells.result ∙ ap (λ xs. branch c.class_at-class.result (to_cells (map cell_view xs))) c.new-cells.ensures.items ∙
    ap (λ k. branch k (to_cells [])) c.class_at-class.ensures ∙ sym (ap (λ n. shown_below memory n c.args.node) c.if-levels-eq0.true ∙ no_level memory c.args.node)

pub tree_at-returns : goal.tree_at-returns
tree_at-returns t c =
    let memory = memory_of c.args.slab.now in
    let deeper = shown_below memory (c.args.levels - 1) in
    made_tree c.class_at-class.result c.loop-slot.cells ∙
    ap (λ xs. branch c.class_at-class.result (to_cells xs)) (c.loop-slot.invariant ∙ ap (λ xs. map (grown_cell deeper)
    (map kept_view xs)) (take_all c.loop-slot.slot-index c.slots_at-slot-items.result.now c.loop-slot-test.false)
    ∙ ap (map (grown_cell deeper)) c.slots_at-slot-items.ensures) ∙
    ap (λ k. branch k (to_cells (map (grown_cell deeper) (cells_in (memory c.args.node))))) c.class_at-class.ensures ∙
    sym (level_above memory c.args.levels c.args.node (omega (arith, c.if-levels-eq0.false)))

pub kids_cell-returns-in_ok-tree_at-in-Some-first : goal.kids_cell-returns-in_ok-tree_at-in-Some-first
kids_cell-returns-in_ok-tree_at-in-Some-first t c =
    let deeper = shown_below (memory_of c.args.slab.now) c.args.levels in
    made_filled c.in_ok-tree_at-in-Some-first.field-0 ∙ ap Filled c.in_ok-tree_at-in-Some-first.ensures ∙
    sym (ap (λ f. grown_cell deeper (Kids (form_view f) c.args.kids.now)) c.in-Optional.is ∙ filled_first deeper c.args.kids.now c.in-Some-first.kid.now (sym c.in-Some-first.ensures.value))

pub kids_cell-returns-in_ok-tree_at-in-Some : goal.kids_cell-returns-in_ok-tree_at-in-Some
kids_cell-returns-in_ok-tree_at-in-Some t c =
    let deeper = shown_below (memory_of c.args.slab.now) c.args.levels in
    made_one c.in_ok-tree_at-in-Some.field-0 ∙ ap One c.in_ok-tree_at-in-Some.ensures ∙
    sym (ap (λ f. grown_cell deeper (Kids (form_view f) c.args.kids.now)) c.in-Plain.is ∙ one_first deeper c.args.kids.now c.in-Some.kid.now (sym c.in-Some.ensures.value))

pub trees_at-loop-kid-preserved : goal.trees_at-loop-kid-preserved
trees_at-loop-kid-preserved t c =
    copied_on (shown_below (memory_of c.args.slab.now) c.args.levels) c.loop-kid.trees.items c.push.new.self.items
    c.in_ok-tree_at.field-0 c.args.kids.now c.loop-kid.kid-index c.kid-item.result c.loop-kid-test.true c.kid-item.is
    c.in_ok-push.ensures.items c.loop-kid.invariant c.in_ok-tree_at.ensures

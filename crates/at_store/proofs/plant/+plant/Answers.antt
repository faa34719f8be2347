use Rattle.std.proofs.Common.{ℕ, length, sym, ap, ◌∙◌, subst, refl, arith, Some}
use Rattle.std.specs.Prelude.{map}
use Rattle.std.specs.Iterator.Adapters.{enumerate_source, enumerate_count}
use Rattle.std.specs.Vec.Iter.{into_iter_items, into_iter_len}
use Rattle.std.proofs.lemmas.List.{nil_from_length}
use Rattle.at_model.specs.Trees.{Cell, Empty, Holds}
use Rattle.at_tree.specs.Token.{token_view}
use Rattle.at_tree.proofs.Made.{made_empty, made_filled}
use Rattle.at_tree.specs.TreeView.{cell_view, tree_view}
use Rattle.at_store.specs.Memory.{Kids, List_of, Optional}
use Rattle.at_store.specs.Planting.{GainsCell, GainsTree, StaysPlanted}
use Rattle.at_class.specs.declared.tree.Tree.{out-Tree}
use Rattle.at_tree.proofs.TreeLoops.{tree_view_out}
use Rattle.at_store.specs.View.{form_view, stored_of}
use Rattle.at_store.proofs.Cells.{made_one, made_many, made_token}
use Rattle.at_store.proofs.of_planting.Gains.{on_ok, on_err, at_err, stays_same, gains_childless, gains_child, gains_tree, tree_freed, HasFirstCells, HasFirstTrees, cells_begun, cells_on, cells_given_up, cells_whole, trees_begun, trees_on, trees_given_up, trees_whole}
use Rattle.at_store.proofs.Arranged.{freed_stored}
use Rattle.at_store.proofs.plant.+plant.Goals as goal

pub plant_cell-returns-in-One-clause-planted : goal.plant_cell-returns-in-One-clause-planted
plant_cell-returns-in-One-clause-planted t c = on_ok c.plant_child.result (subst (λ (x : Cell).
    GainsCell c.args.node c.args.part x (stored_of c.args.slab.now) (stored_of c.plant_child.new.slab))
    (sym (ap cell_view c.in-One.is ∙ made_one c.in-One.tree))) c.plant_child.ensures.planted

pub plant_cell-returns-in-One-clause-stays : goal.plant_cell-returns-in-One-clause-stays
plant_cell-returns-in-One-clause-stays t c = on_err c.plant_child.result (stays_same c.args.node c.args.part (stored_of c.args.slab.now) (stored_of c.plant_child.new.slab)) c.plant_child.ensures.kept

pub plant_cell-returns-in-Many-clause-planted : goal.plant_cell-returns-in-Many-clause-planted
plant_cell-returns-in-Many-clause-planted t c =
    on_ok c.plant_list.result (subst (λ (x : Cell). GainsCell c.args.node c.args.part x (stored_of c.args.slab.now) (stored_of c.plant_list.new.slab))
    (sym (ap cell_view c.in-Many.is ∙ made_many c.in-Many.trees))) c.plant_list.ensures.planted

pub plant_cell-returns-in-Tok-clause-planted : goal.plant_cell-returns-in-Tok-clause-planted
plant_cell-returns-in-Tok-clause-planted t c =
    on_ok c.push_slot-in-Tok.result
    (λ p. subst (λ (x : Cell). GainsCell c.args.node c.args.part x (stored_of c.args.slab.now)
    (stored_of c.push_slot-in-Tok.new.slab)) (sym (ap cell_view c.in-Tok.is ∙ made_token c.in-Tok.value))
    (gains_childless c.args.node c.args.part (Holds (token_view c.in-Tok.value)) _ (stored_of c.args.slab.now)
    (stored_of c.push_slot-in-Tok.new.slab) refl refl (λ f. refl) p)) c.push_slot-in-Tok.ensures.pushed

pub plant_cell-returns-in-Tok-clause-stays : goal.plant_cell-returns-in-Tok-clause-stays
plant_cell-returns-in-Tok-clause-stays t c = on_err c.push_slot-in-Tok.result (stays_same c.args.node c.args.part
    (stored_of c.args.slab.now) (stored_of c.push_slot-in-Tok.new.slab)) c.push_slot-in-Tok.ensures.kept

pub plant-loop-part-init : goal.plant-loop-part-init
plant-loop-part-init t c =
    let it = c.into_iter-part-iterator.ensures.into_iter_gives in
    let same = ap enumerate_source it ∙ c.enumerate-part-items.ensures.source in
    let all = ap into_iter_items same ∙ c.into_iter.ensures.rest in
    record {
      len = ap into_iter_len same ∙ c.into_iter.ensures.len ∙ (out-Tree c.args.tree).cells.ok.0 ∙ ap length (sym all);
      has = subst (λ xs. HasFirstCells c.in_ok-node.node (out-Tree c.args.tree).class (c.args.up, c.args.index)
          (map cell_view (out-Tree c.args.tree).cells.items) (map cell_view xs) (enumerate_count
          c.into_iter-part-iterator.result) (stored_of c.args.slab.now) (stored_of c.add.new.slab)) (sym all)
          (cells_begun c.in_ok-node.node (out-Tree c.args.tree).class (c.args.up, c.args.index)
          (map cell_view (out-Tree c.args.tree).cells.items) (enumerate_count c.into_iter-part-iterator.result)
          (stored_of c.args.slab.now) (stored_of c.add.new.slab)
          (ap enumerate_count it ∙ c.enumerate-part-items.ensures.count) c.in_ok-node.ensures.pushed);
      marks = c.add.ensures.marks;
    }

pub plant-returns-in-Err-clause-kept : goal.plant-returns-in-Err-clause-kept
plant-returns-in-Err-clause-kept t c =
    let number = c.in-Some.ensures.steps.1 in
    cells_given_up c.in_ok-node.node (out-Tree c.args.tree).class (c.args.up, c.args.index)
    (map cell_view (out-Tree c.args.tree).cells.items) (map cell_view
    (into_iter_items (enumerate_source c.loop-part.part-iterator))) (enumerate_count c.loop-part.part-iterator)
    (stored_of c.args.slab.now) (stored_of c.loop-part.slab) (stored_of c.plant_cell.new.slab) (stored_of c.free.new.slab) c.loop-part.invariant.has
    (subst (λ (n : ℕ). StaysPlanted c.in_ok-node.node n (stored_of c.loop-part.slab) (stored_of c.plant_cell.new.slab))
    number c.in-Err.ensures.stays)
    (freed_stored c.in_ok-node.node c.plant_cell.new.slab c.free.new.slab c.free.ensures.freed)

pub plant-loop-part-preserved : goal.plant-loop-part-preserved
plant-loop-part-preserved t c =
    let inv = c.loop-part.invariant in
    let steps = c.in-Some.ensures.steps in
    let took = steps.0.0 in
    record {
      len = omega (arith, inv.len, steps.0.1, ap length took);
      has = cells_on c.in_ok-node.node (out-Tree c.args.tree).class (c.args.up, c.args.index) (map cell_view
          (out-Tree c.args.tree).cells.items) (map cell_view (into_iter_items (enumerate_source c.next.new.self)))
          (cell_view c.in-Some.cell) (enumerate_count c.loop-part.part-iterator) (enumerate_count c.next.new.self)
          (stored_of c.args.slab.now) (stored_of c.loop-part.slab) (stored_of c.plant_cell.new.slab) steps.2
          (subst (λ xs. HasFirstCells c.in_ok-node.node (out-Tree c.args.tree).class (c.args.up, c.args.index)
          (map cell_view (out-Tree c.args.tree).cells.items) (map cell_view xs) (enumerate_count
          c.loop-part.part-iterator) (stored_of c.args.slab.now) (stored_of c.loop-part.slab)) took inv.has)
          (subst (λ (n : ℕ). GainsCell c.in_ok-node.node n (cell_view c.in-Some.cell) (stored_of c.loop-part.slab) (stored_of c.plant_cell.new.slab)) steps.1 c.in_default.ensures.planted);
      marks = λ k e. inv.marks k (c.plant_cell.ensures.marks k e);
    }

pub plant-returns-clause-planted : goal.plant-returns-clause-planted
plant-returns-clause-planted t c =
    let inv = c.loop-part.invariant in
    let none = ap (map cell_view) (nil_from_length (into_iter_items (enumerate_source c.loop-part.part-iterator)) (sym inv.len ∙ c.in-None.ensures.steps.0.0)) in
    cells_whole c.in_ok-node.node (out-Tree c.args.tree).class (c.args.up, c.args.index) (map cell_view (out-Tree
    c.args.tree).cells.items) (map cell_view (into_iter_items (enumerate_source c.loop-part.part-iterator)))
    (enumerate_count c.loop-part.part-iterator) (tree_view c.args.tree) (stored_of c.args.slab.now)
    (stored_of c.loop-part.slab) none (tree_view_out c.args.tree) inv.has

pub plant_child-returns-in-Err-clause-kept : goal.plant_child-returns-in-Err-clause-kept
plant_child-returns-in-Err-clause-kept t c =
    let (w, number, p) = c.in_ok-kid.ensures.planted in
    tree_freed c.in_ok-kid.kid (Some (c.args.node, c.args.part), 0) (tree_view c.args.tree) w
    (stored_of c.args.slab.now) (stored_of c.plant.new.slab) (stored_of c.push_filled.new.slab)
    (stored_of c.free.new.slab) number p c.in-Err.ensures.kept
    (freed_stored c.in_ok-kid.kid c.push_filled.new.slab c.free.new.slab c.free.ensures.freed)

pub plant_child-returns-clause-planted : goal.plant_child-returns-clause-planted
plant_child-returns-clause-planted t c =
    let (w, number, p) = c.in_ok-kid.ensures.planted in
    gains_child c.args.node c.args.part c.in_ok-kid.kid (form_view c.args.form) (tree_view c.args.tree) w
    (stored_of c.args.slab.now) (stored_of c.plant.new.slab) (stored_of c.push_filled.new.slab) number p
    c.in_default.ensures.pushed

pub plant_element-returns-in-Err-clause-kept : goal.plant_element-returns-in-Err-clause-kept
plant_element-returns-in-Err-clause-kept t c =
    let (w, number, p) = c.in_ok-kid.ensures.planted in
    tree_freed c.in_ok-kid.kid (Some (c.args.node, c.args.part), c.args.index) (tree_view c.args.tree) w (stored_of
    c.args.slab.now) (stored_of c.plant.new.slab) (stored_of c.push_kid.new.slab) (stored_of c.free.new.slab) number
    p c.in-Err.ensures.kept (freed_stored c.in_ok-kid.kid c.push_kid.new.slab c.free.new.slab c.free.ensures.freed)

pub plant_element-returns-clause-planted : goal.plant_element-returns-clause-planted
plant_element-returns-clause-planted t c =
    let (w, number, p) = c.in_ok-kid.ensures.planted in
    gains_tree c.args.node c.args.part c.args.index c.in_ok-kid.kid (tree_view c.args.tree) w
    (stored_of c.args.slab.now) (stored_of c.plant.new.slab) (stored_of c.push_kid.new.slab) number p
    c.in_default.ensures.pushed

pub plant_list-returns-in_err-push_slot-clause-stays : goal.plant_list-returns-in_err-push_slot-clause-stays
plant_list-returns-in_err-push_slot-clause-stays t c =
    at_err c.from_residual-in_err-push_slot.result (stays_same c.args.node c.args.part (stored_of c.args.slab.now)
    (stored_of c.push_slot.new.slab) c.in_err-push_slot.ensures.kept)

pub plant_list-loop-index-init : goal.plant_list-loop-index-init
plant_list-loop-index-init t c =
    let it = c.into_iter-index-iterator.ensures.into_iter_gives in
    let same = ap enumerate_source it ∙ c.enumerate-index-items.ensures.source in
    let all = ap into_iter_items same ∙ c.into_iter.ensures.rest in
    record {
      len = ap into_iter_len same ∙ c.into_iter.ensures.len ∙ c.args.trees.ok.0 ∙ ap length (sym all);
      has = subst (λ xs. HasFirstTrees c.args.node c.args.part (map tree_view c.args.trees.items) (map tree_view xs)
          (enumerate_count c.into_iter-index-iterator.result) (stored_of c.args.slab.now)
          (stored_of c.push_slot.new.slab)) (sym all)
          (trees_begun c.args.node c.args.part (Kids List_of c.in_ok-kids.kids.items) (map tree_view c.args.trees.items)
          (enumerate_count c.into_iter-index-iterator.result) (stored_of c.args.slab.now)
          (stored_of c.push_slot.new.slab) (ap enumerate_count it ∙ c.enumerate-index-items.ensures.count)
          (ap (Kids List_of) c.in_ok-kids.ensures.items) c.in_ok-push_slot.ensures.pushed);
      marks = c.push_slot.ensures.marks;
    }

pub plant_list-returns-in_err-plant_element-clause-stays : goal.plant_list-returns-in_err-plant_element-clause-stays
plant_list-returns-in_err-plant_element-clause-stays t c =
    at_err c.from_residual-in_err-plant_element.result (trees_given_up c.args.node c.args.part (map tree_view
    c.args.trees.items) (map tree_view (into_iter_items (enumerate_source c.loop-index.index-iterator)))
    (enumerate_count c.loop-index.index-iterator) (stored_of c.args.slab.now) (stored_of c.loop-index.slab)
    (stored_of c.plant_element.new.slab) c.loop-index.invariant.has c.in_err-plant_element.ensures.kept)

pub plant_list-loop-index-preserved : goal.plant_list-loop-index-preserved
plant_list-loop-index-preserved t c =
    let inv = c.loop-index.invariant in
    let steps = c.in-Some.ensures.steps in
    let took = steps.0.0 in
    record {
      len = omega (arith, inv.len, steps.0.1, ap length took);
      has = trees_on c.args.node c.args.part (map tree_view c.args.trees.items)
          (map tree_view (into_iter_items (enumerate_source c.next.new.self))) (tree_view c.in-Some.tree)
          (enumerate_count c.loop-index.index-iterator) (enumerate_count c.next.new.self)
          (stored_of c.args.slab.now) (stored_of c.loop-index.slab) (stored_of c.plant_element.new.slab) steps.2
          (subst (λ xs. HasFirstTrees c.args.node c.args.part (map tree_view c.args.trees.items) (map tree_view xs)
          (enumerate_count c.loop-index.index-iterator) (stored_of c.args.slab.now) (stored_of c.loop-index.slab))
          took inv.has)
          (subst (λ (n : ℕ). GainsTree c.args.node c.args.part n (tree_view c.in-Some.tree) (stored_of
          c.loop-index.slab) (stored_of c.plant_element.new.slab)) steps.1 c.in_ok-plant_element.ensures.planted);
      marks = λ k e. inv.marks k (c.plant_element.ensures.marks k e);
    }

pub plant_list-returns-clause-planted : goal.plant_list-returns-clause-planted
plant_list-returns-clause-planted t c =
    let inv = c.loop-index.invariant in
    let none = ap (map tree_view) (nil_from_length (into_iter_items (enumerate_source c.loop-index.index-iterator)) (sym inv.len ∙ c.in-None.ensures.steps.0.0)) in
    trees_whole c.args.node c.args.part (map tree_view c.args.trees.items) (map tree_view
    (into_iter_items (enumerate_source c.loop-index.index-iterator))) (enumerate_count c.loop-index.index-iterator)
    (stored_of c.args.slab.now) (stored_of c.loop-index.slab) none inv.has

pub plant_cell-returns-in-Empty-clause-planted : goal.plant_cell-returns-in-Empty-clause-planted
plant_cell-returns-in-Empty-clause-planted t c =
    on_ok c.push_slot.result (λ p. subst (λ (x : Cell). GainsCell c.args.node c.args.part x (stored_of c.args.slab.now)
    (stored_of c.push_slot.new.slab)) (sym (ap cell_view c.in-Empty.is ∙ made_empty))
    (gains_childless c.args.node c.args.part Empty (Kids Optional c.new.result.items) (stored_of c.args.slab.now)
    (stored_of c.push_slot.new.slab) (ap (Kids Optional) c.new.ensures.items) refl (λ f. refl) p))
    c.push_slot.ensures.pushed

pub plant_cell-returns-in-Empty-clause-stays : goal.plant_cell-returns-in-Empty-clause-stays
plant_cell-returns-in-Empty-clause-stays t c = on_err c.push_slot.result (stays_same c.args.node c.args.part (stored_of c.args.slab.now) (stored_of c.push_slot.new.slab)) c.push_slot.ensures.kept

pub plant_cell-returns-in-Filled-clause-planted : goal.plant_cell-returns-in-Filled-clause-planted
plant_cell-returns-in-Filled-clause-planted t c =
    on_ok c.plant_child-in-Filled.result (subst (λ (x : Cell). GainsCell c.args.node c.args.part x (stored_of c.args.slab.now) (stored_of c.plant_child-in-Filled.new.slab))
    (sym (ap cell_view c.in-Filled.is ∙ made_filled c.in-Filled.tree))) c.plant_child-in-Filled.ensures.planted

pub plant_cell-returns-in-Filled-clause-stays : goal.plant_cell-returns-in-Filled-clause-stays
plant_cell-returns-in-Filled-clause-stays t c = on_err c.plant_child-in-Filled.result
    (stays_same c.args.node c.args.part (stored_of c.args.slab.now) (stored_of c.plant_child-in-Filled.new.slab))
    c.plant_child-in-Filled.ensures.kept

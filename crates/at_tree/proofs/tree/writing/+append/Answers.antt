use Rattle.std.proofs.Common.{rules, length, map, ◌+◌, ◌++◌, [], ◌∷◌, ◌∙◌, ap, sym, arith, append-nil, append_assoc}
use Rattle.std.proofs.lemmas.Result.{err_from_is_err_and}
use Rattle.at_model.specs.Classes.{name_of}
use Rattle.at_model.specs.Terms.{tree_text, cell_text, cell_of, with_commas}
use Rattle.at_tree.specs.Separated.{separator}
use Rattle.at_class.specs.TreeView.{tree_view, cell_view}
use Rattle.at_class.specs.View.{part_view}
use Rattle.at_tree.proofs.TreeTexts.{cells_so_far, written_so_far, trees_so_far, none_written, written-same, written-more, one_text_more, one_longer, commas-more, tree_text-whole, list_text-whole, stays, one_more, one_sep, closed}
use Rattle.at_tree.proofs.tree.writing.+append.Goals as goal

pub append_tree-loop-i-init : goal.append_tree-loop-i-init
append_tree-loop-i-init t c =
    let name = name_of c.args.classes.now c.args.tree.now.class in
    let none = none_written c.args.classes.now (map part_view c.parts_or_none-parts.result.now) c.deref-cell-items.result.now in (
      c.in_ok-open.ensures.ok ∙ ap (λ ys. c.args.out.now.items ++ ys) (sym (append-nil (name ++ 40 ∷ [])) ∙ ap (λ ts. (name ++ 40 ∷ []) ++ with_commas ts) (sym none)),
      sym (ap length none),
      omega arith,
    )

pub append_tree-loop-i-preserved-then-is_fixed : goal.append_tree-loop-i-preserved-then-is_fixed
append_tree-loop-i-preserved-then-is_fixed t c =
    let name = name_of c.args.classes.now c.args.tree.now.class in
    let fixed = sym c.is_fixed.ensures ∙ c.if-is_fixed.true in
    let same = sym (written-same c.args.classes.now (map part_view c.parts_or_none-parts.result.now) c.deref-cell-items.result.now c.loop-i.i c.cell-item.result (omega arith) c.cell-item.is fixed) in (
      c.loop-i.invariant.0 ∙ ap (λ ts. c.args.out.now.items ++ ((name ++ 40 ∷ []) ++ with_commas ts)) same,
      c.loop-i.invariant.1 ∙ ap length same,
      omega (arith, c.loop-i.invariant.2),
    )

pub append_tree-returns-in_err-separate : goal.append_tree-returns-in_err-separate
append_tree-returns-in_err-separate t c =
    let p = err_from_is_err_and c.from_residual-in_err-separate.result c.from_residual-in_err-separate.ensures.1 in
    rw p.1 (record { ok = tt; err = stays _ _ _ _ c.loop-i.invariant.0 c.in_err-separate.ensures.err })

pub append_tree-returns-in_err-append_cell : goal.append_tree-returns-in_err-append_cell
append_tree-returns-in_err-append_cell t c =
    let p = err_from_is_err_and c.from_residual-in_err-append_cell.result c.from_residual-in_err-append_cell.ensures.1 in
    let ps = map part_view c.parts_or_none-parts.result.now in
    let name = name_of c.args.classes.now c.args.tree.now.class in
    let before = one_sep _ (name ++ 40 ∷ []) (cells_so_far c.args.classes.now ps c.deref-cell-items.result.now c.loop-i.i) _ _ _ c.loop-i.invariant.0 c.in_ok-separate.ensures.ok in
    rw p.1 (record { ok = tt; err = stays _ _ _ _ before c.in_err-append_cell.ensures.err })

pub append_tree-loop-i-preserved : goal.append_tree-loop-i-preserved
append_tree-loop-i-preserved t c =
    let classes = c.args.classes.now in
    let ps = map part_view c.parts_or_none-parts.result.now in
    let xs = c.deref-cell-items.result.now in
    let text = cell_text (cell_of classes (cell_view c.cell-item.result)) in
    let free = sym c.is_fixed.ensures ∙ c.if-is_fixed.false in
    let so_far = written_so_far classes ps xs c.loop-i.i in
    let more = written-more classes ps xs c.loop-i.i c.cell-item.result (omega arith) c.cell-item.is free in
    let next = one_text_more so_far (written_so_far classes ps xs (c.loop-i.i + 1)) text c.loop-i.written c.loop-i.invariant.1 more in (
      one_more _ (name_of classes c.args.tree.now.class ++ 40 ∷ []) (with_commas so_far) (separator c.loop-i.written) text c.loop-i.out.items c.separate.new.out.items _ _
          c.loop-i.invariant.0 c.in_ok-separate.ensures.ok c.in_ok-append_cell.ensures.ok next,
      one_longer so_far (written_so_far classes ps xs (c.loop-i.i + 1)) text c.loop-i.written c.loop-i.invariant.1 more,
      omega (arith, c.loop-i.invariant.2),
    )

pub append_tree-returns : goal.append_tree-returns
append_tree-returns t c =
    let classes = c.args.classes.now in
    let xs = c.deref-cell-items.result.now in
    let ps = map part_view c.parts_or_none-parts.result.now in
    let name = name_of classes c.args.tree.now.class in
    record {
      err = search rules;
      ok = closed _ (name ++ 40 ∷ []) (cells_so_far classes ps xs c.loop-i.i) c.loop-i.out.items _ (41 ∷ []) c.loop-i.invariant.0 c.in_ok-push.ensures.items
          ∙ ap (λ ys. c.args.out.now.items ++ ys) (append_assoc name (40 ∷ []) (cells_so_far classes ps xs c.loop-i.i ++ 41 ∷ [])
          ∙ sym (tree_text-whole classes c.args.tree.now xs ps c.loop-i.i c.loop-i-test.false c.deref-cell-items.ensures.value c.parts_or_none-parts.ensures));
    }

pub append_list-returns-in_err-separate : goal.append_list-returns-in_err-separate
append_list-returns-in_err-separate t c =
    let p = err_from_is_err_and c.from_residual-in_err-separate.result c.from_residual-in_err-separate.ensures.1 in
    rw p.1 (record { ok = tt; err = stays _ _ _ _ c.loop-i.invariant c.in_err-separate.ensures.err })

pub append_list-returns-in_err-append_tree : goal.append_list-returns-in_err-append_tree
append_list-returns-in_err-append_tree t c =
    let p = err_from_is_err_and c.from_residual-in_err-append_tree.result c.from_residual-in_err-append_tree.ensures.1 in
    rw p.1 (record { ok = tt; err = stays _ _ _ _ (one_sep _ (91 ∷ []) (trees_so_far c.args.classes.now c.args.trees.now c.loop-i.i) _ _ _ c.loop-i.invariant c.in_ok-separate.ensures.ok) c.in_err-append_tree.ensures.err })

pub append_list-loop-i-preserved : goal.append_list-loop-i-preserved
append_list-loop-i-preserved t c =
    let classes = c.args.classes.now in
    let next = commas-more (λ x. tree_text classes (tree_view x)) c.args.trees.now c.loop-i.i c.index-trees-i.result (omega arith) c.index-trees-i.is in
    one_more _ (91 ∷ []) (trees_so_far classes c.args.trees.now c.loop-i.i) (separator c.loop-i.i) (tree_text classes (tree_view c.index-trees-i.result)) c.loop-i.out.items c.separate.new.out.items _ _
    c.loop-i.invariant c.in_ok-separate.ensures.ok c.in_ok-append_tree.ensures.ok next

pub append_list-returns : goal.append_list-returns
append_list-returns t c =
    let classes = c.args.classes.now in
    record {
      err = search rules;
      ok = closed _ (91 ∷ []) (trees_so_far classes c.args.trees.now c.loop-i.i) c.loop-i.out.items _ (93 ∷ []) c.loop-i.invariant c.in_ok-push-2.ensures.items
          ∙ ap (λ ys. c.args.out.now.items ++ ys) (sym (list_text-whole classes c.args.trees.now c.loop-i.i c.loop-i-test.false));
    }

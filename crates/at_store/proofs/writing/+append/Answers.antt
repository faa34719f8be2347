use Rattle.std.proofs.Common.{◌++◌, ◌+◌, ◌-◌, [], ◌∷◌, ◌∙◌, ap, sym, arith, append_assoc, append-nil, length, map}
use Rattle.std.proofs.lemmas.Result.{err_from_is_err_and}
use Rattle.at_model.specs.Classes.{name_of, parts}
use Rattle.at_model.specs.Terms.{tree_text, with_commas}
use Rattle.at_class.specs.View.{part_view}
use Rattle.at_tree.specs.Separated.{separator}
use Rattle.at_tree.proofs.TreeTexts.{commas-more, stays, one_more, one_longer, one_sep, one_text_more, closed}
use Rattle.at_tree.proofs.Unfixed.{first_unfixed-more, first_unfixed-same, unfixed-none}
use Rattle.at_store.specs.Grown.{shown_below}
use Rattle.at_store.specs.Memory.{class_in}
use Rattle.at_store.specs.View.{memory_of}
use Rattle.at_store.proofs.TextsBelow.{list_text, number_text, numbers_so_far, slot_text, slots_so_far, text_above, text_at_no_level, written_so_far}
use Rattle.at_store.proofs.writing.+append.Goals as goal

pub append_list-returns-in_err-separate-clause-err : goal.append_list-returns-in_err-separate-clause-err
append_list-returns-in_err-separate-clause-err t c =
    let p = err_from_is_err_and c.from_residual-in_err-separate.result c.from_residual-in_err-separate.ensures.1 in
    rw p.1 (stays _ _ _ _ c.loop-i.invariant c.in_err-separate.ensures.err)

pub append_list-returns-in_err-append_tree-clause-err : goal.append_list-returns-in_err-append_tree-clause-err
append_list-returns-in_err-append_tree-clause-err t c =
    let p = err_from_is_err_and c.from_residual-in_err-append_tree.result c.from_residual-in_err-append_tree.ensures.1 in
    let deeper = shown_below (memory_of c.args.slab.now) c.args.levels in
    rw p.1 (stays _ _ _ _ (one_sep _ (91 ∷ []) (numbers_so_far c.args.classes.now deeper c.args.kids.now c.loop-i.i)
    _ _ _ c.loop-i.invariant c.in_ok-separate.ensures.ok) c.in_err-append_tree.ensures.err)

pub append_list-loop-i-preserved : goal.append_list-loop-i-preserved
append_list-loop-i-preserved t c =
    let deeper = shown_below (memory_of c.args.slab.now) c.args.levels in
    let text = number_text c.args.classes.now deeper in
    let next = commas-more text c.args.kids.now c.loop-i.i c.index-kids-i.result (omega arith) c.index-kids-i.is in
    one_more _ (91 ∷ []) (numbers_so_far c.args.classes.now deeper c.args.kids.now c.loop-i.i) (separator c.loop-i.i) (text c.index-kids-i.result) c.loop-i.out.items c.separate.new.out.items _ _
    c.loop-i.invariant c.in_ok-separate.ensures.ok c.in_ok-append_tree.ensures.ok next

pub append_list-returns-clause-ok : goal.append_list-returns-clause-ok
append_list-returns-clause-ok t c =
    let deeper = shown_below (memory_of c.args.slab.now) c.args.levels in
    closed _ (91 ∷ []) (numbers_so_far c.args.classes.now deeper c.args.kids.now c.loop-i.i) c.loop-i.out.items _ (93 ∷ []) c.loop-i.invariant c.in_ok-push-2.ensures.items
    ∙ ap (λ ys. c.args.out.now.items ++ ys) (sym (list_text c.args.classes.now deeper c.args.kids.now c.loop-i.i c.loop-i-test.false))

pub append_tree-returns-then-levels-eq0-clause-ok : goal.append_tree-returns-then-levels-eq0-clause-ok
append_tree-returns-then-levels-eq0-clause-ok t c =
    let memory = memory_of c.args.slab.now in
    let classes = c.args.classes.now in
    let name = name_of classes (class_in memory c.args.node) in
    let opened = c.in_ok-open.ensures.ok ∙ ap (λ k. c.args.out.now.items ++ (name_of classes k ++ 40 ∷ [])) c.class_at-class.ensures in
    c.in_ok-push.ensures.items ∙ ap (λ ys. ys ++ 41 ∷ []) opened ∙ append_assoc c.args.out.now.items (name ++ 40 ∷ []) (41 ∷ [])
    ∙ ap (λ ys. c.args.out.now.items ++ ys) (append_assoc name (40 ∷ []) (41 ∷ []) ∙ sym (ap (λ n. tree_text classes
    (shown_below memory n c.args.node)) c.if-levels-eq0.true ∙ text_at_no_level classes memory c.args.node))

pub append_tree-loop-i-init : goal.append_tree-loop-i-init
append_tree-loop-i-init t c =
    let classes = c.args.classes.now in
    let name = name_of classes (class_in (memory_of c.args.slab.now) c.args.node) in
    let none = unfixed-none (map part_view c.parts_or_none-parts.result.now) in (
      c.in_ok-open.ensures.ok ∙ ap (λ k. c.args.out.now.items ++ (name_of classes k ++ 40 ∷ [])) c.class_at-class.ensures
          ∙ ap (λ ys. c.args.out.now.items ++ ys) (sym (append-nil (name ++ 40 ∷ [])) ∙ ap (λ ts. (name ++ 40 ∷ []) ++ with_commas ts) (sym none)),
      sym (ap length none),
      omega arith,
    )

pub append_tree-returns-in_err-separate-clause-err : goal.append_tree-returns-in_err-separate-clause-err
append_tree-returns-in_err-separate-clause-err t c =
    let p = err_from_is_err_and c.from_residual-in_err-separate.result c.from_residual-in_err-separate.ensures.1 in
    rw p.1 (stays _ _ _ _ c.loop-i.invariant.0 c.in_err-separate.ensures.err)

pub append_tree-returns-in_err-append_slot-clause-err : goal.append_tree-returns-in_err-append_slot-clause-err
append_tree-returns-in_err-append_slot-clause-err t c =
    let p = err_from_is_err_and c.from_residual-in_err-append_slot.result c.from_residual-in_err-append_slot.ensures.1 in
    let memory = memory_of c.args.slab.now in
    let classes = c.args.classes.now in
    let ps = map part_view c.parts_or_none-parts.result.now in
    rw p.1 (stays _ _ _ _ (one_sep _ (name_of classes (class_in memory c.args.node) ++ 40 ∷ [])
    (slots_so_far classes (shown_below memory (c.args.levels - 1)) ps c.slots_at-slot-items.result.now c.loop-i.i)
    _ _ _ c.loop-i.invariant.0 c.in_ok-separate.ensures.ok) c.in_err-append_slot.ensures.err)

pub append_tree-loop-i-preserved-then-is_fixed : goal.append_tree-loop-i-preserved-then-is_fixed
append_tree-loop-i-preserved-then-is_fixed t c =
    let memory = memory_of c.args.slab.now in
    let classes = c.args.classes.now in
    let name = name_of classes (class_in memory c.args.node) in
    let text = slot_text classes (shown_below memory (c.args.levels - 1)) in
    let fixed = sym c.is_fixed.ensures ∙ c.if-is_fixed.true in
    let same = sym (first_unfixed-same (map part_view c.parts_or_none-parts.result.now) text c.slots_at-slot-items.result.now
    c.loop-i.i c.slot-item.result (omega arith) c.slot-item.is fixed) in (
      c.loop-i.invariant.0 ∙ ap (λ ts. c.args.out.now.items ++ ((name ++ 40 ∷ []) ++ with_commas ts)) same,
      c.loop-i.invariant.1 ∙ ap length same,
      omega (arith, c.loop-i.invariant.2),
    )

pub append_tree-loop-i-preserved : goal.append_tree-loop-i-preserved
append_tree-loop-i-preserved t c =
    let memory = memory_of c.args.slab.now in
    let classes = c.args.classes.now in
    let deeper = shown_below memory (c.args.levels - 1) in
    let ps = map part_view c.parts_or_none-parts.result.now in
    let xs = c.slots_at-slot-items.result.now in
    let text = slot_text classes deeper c.slot-item.result in
    let free = sym c.is_fixed.ensures ∙ c.if-is_fixed.false in
    let so_far = written_so_far classes deeper ps xs c.loop-i.i in
    let then_so_far = written_so_far classes deeper ps xs (c.loop-i.i + 1) in
    let more = first_unfixed-more ps (slot_text classes deeper) xs c.loop-i.i c.slot-item.result (omega arith) c.slot-item.is free in
    let next = one_text_more so_far then_so_far text c.loop-i.count c.loop-i.invariant.1 more in (
      one_more _ (name_of classes (class_in memory c.args.node) ++ 40 ∷ []) (with_commas so_far) (separator c.loop-i.count) text c.loop-i.out.items c.separate.new.out.items _ _
          c.loop-i.invariant.0 c.in_ok-separate.ensures.ok c.in_ok-append_slot.ensures.ok next,
      one_longer so_far then_so_far text c.loop-i.count c.loop-i.invariant.1 more,
      omega (arith, c.loop-i.invariant.2),
    )

pub append_tree-returns-clause-ok : goal.append_tree-returns-clause-ok
append_tree-returns-clause-ok t c =
    let memory = memory_of c.args.slab.now in
    let classes = c.args.classes.now in
    let name = name_of classes (class_in memory c.args.node) in
    let ps = map part_view c.parts_or_none-parts.result.now in
    let so_far = slots_so_far classes (shown_below memory (c.args.levels - 1)) ps c.slots_at-slot-items.result.now c.loop-i.i in
    closed _ (name ++ 40 ∷ []) so_far c.loop-i.out.items _ (41 ∷ []) c.loop-i.invariant.0 c.in_ok-push-2.ensures.items
    ∙ ap (λ ys. c.args.out.now.items ++ ys) (append_assoc name (40 ∷ []) (so_far ++ 41 ∷ [])
    ∙ sym (text_above classes memory c.args.levels c.args.node c.slots_at-slot-items.result.now ps c.loop-i.i
    (omega (arith, c.if-levels-eq0.false)) c.loop-i-test.false c.slots_at-slot-items.ensures
    (c.parts_or_none-parts.ensures ∙ ap (parts classes) c.class_at-class.ensures)))

use Rattle.std.proofs.Common.{ℕ, Option, sym, ◌∙◌, subst}
use Rattle.at_tree.specs.TreeView.{tree_view}
use Rattle.at_store.specs.Memory.{Info, top}
use Rattle.at_store.specs.Planting.{IsPlanted}
use Rattle.at_store.specs.View.{memory_of}
use Rattle.at_store.proofs.of_planting.Gains.{tree_freed}
use Rattle.at_store.proofs.store.Store.bring_child.Goals as goal

pub returns-in-Ok-clause-brought : goal.returns-in-Ok-clause-brought
returns-in-Ok-clause-brought c =
    let (planted, waits, rest) = c.in_ok-new.ensures.brought in
    let (w, number, p) = planted in
    ((w, number, subst (λ (m : ℕ → Option Info). IsPlanted (memory_of c.args.self.now.slab) m top (tree_view c.args.tree) w) (λ i k. sym (c.reserve.ensures.stays k) i) p), waits, rest)

pub returns-in-Ok-clause-marks : goal.returns-in-Ok-clause-marks
returns-in-Ok-clause-marks c = λ k e. c.bring.ensures.marks k (sym (c.reserve.ensures.marks k) ∙ e)

pub returns-in-Err-clause-marks : goal.returns-in-Err-clause-marks
returns-in-Err-clause-marks c = λ k e. c.bring.ensures.marks k (sym (c.reserve.ensures.marks k) ∙ c.unbring.ensures.marks k e)

pub returns-in-Err-clause-kept : goal.returns-in-Err-clause-kept
returns-in-Err-clause-kept c = λ none.
    let (planted, waits, rest) = c.in_ok-new.ensures.brought in
    let (w, number, p) = planted in
    let (freed, gone, after) = c.unbring.ensures.unbrought in
    let (root, leaving, limit) = rest in
    let (root', leaving', limit') = after in (
      tree_freed c.in_ok-new.new top (tree_view c.args.tree) w (memory_of c.args.self.now.slab)
          (memory_of c.bring.new.self.slab) (memory_of c.reserve.new.slab) (memory_of c.unbring.new.self.slab) number p
          c.reserve.ensures.stays (freed c.in_ok-new.new waits),
      gone ∙ sym none,
      (root' ∙ root, leaving' ∙ leaving, limit' ∙ limit),
    )

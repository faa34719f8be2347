use Rattle.std.proofs.Common.{rules, ℕ, refl, subst}
use Rattle.at_tree.specs.TreeView.{tree_view}
use Rattle.at_store.specs.Checking.{Prepares}
use Rattle.at_store.specs.declared.edit.Edit.TheVariants as asked
use Rattle.at_store.specs.declared.edit.Prepared.TheVariants as plan
use Rattle.at_store.proofs.of_edits.Checked.{brings, insert_prepared}
use Rattle.at_store.proofs.of_planting.Gains.{at_err}
use Rattle.at_store.proofs.store.Store.prepare_insert.Goals as goal

pub returns : goal.returns
returns c =
    let old = c.args.self.now in
    let new = c.bring_child.new.self in
    let root = c.in_ok-new.new in
    let (planted, waits, (root_stays, leaving, limit)) = c.in_ok-new.ensures.brought in
    let part = c.in_ok-part.part in
    record {
      kept = search rules;
      marks = search rules;
      prepared = subst (λ (p : ℕ). Prepares old (asked.Insert c.args.node p c.args.index c.args.tree) new (plan.Insert c.args.node part c.args.index root)) c.in_ok-part.ensures
          (insert_prepared old new c.args.node part c.args.index root c.args.tree
          (brings old new (tree_view c.args.tree) root c.in_ok-new.ensures.brought) leaving
          c.bring_child.ensures.marks c.in_ok-new.ensures.room);
    }

pub returns-in_err-part : goal.returns-in_err-part
returns-in_err-part c = record {
  prepared = search rules;
  kept = at_err c.from_residual.result (λ none. ((λ k. refl), refl, (refl, refl, refl)));
  marks = at_err c.from_residual.result (λ k e. e);
}

use Rattle.std.proofs.Common.{rules, ℕ, refl, subst, sym, ◌∙◌}
use Rattle.at_store.specs.Checking.{Prepares}
use Rattle.at_store.specs.declared.edit.Edit.TheVariants as asked
use Rattle.at_store.specs.declared.edit.Prepared.TheVariants as plan
use Rattle.at_store.proofs.of_edits.Checked.{move_prepared}
use Rattle.at_store.proofs.of_planting.Gains.{at_err}
use Rattle.at_store.proofs.store.Store.prepare_move.Goals as goal

pub returns : goal.returns
returns c =
    let old = c.args.self.now in
    let new = record old { slab = c.reserve.new.slab } in
    let part = c.in_ok-part.part in
    record {
      kept = search rules;
      marks = search rules;
      prepared = subst (λ (p : ℕ). Prepares old (asked.Move c.args.node c.args.to p c.args.index) new (plan.Move c.args.node c.args.to part c.args.index)) c.in_ok-part.ensures
          (move_prepared old new c.args.node c.args.to part c.args.index (c.reserve.ensures.stays, refl, (refl, refl, refl)) (λ k e. sym (c.reserve.ensures.marks k) ∙ e) c.in_ok-reserve.ensures.room);
    }

pub returns-in_err-reserve : goal.returns-in_err-reserve
returns-in_err-reserve c = record {
  prepared = search rules;
  kept = at_err c.from_residual-in_err-reserve.result (λ none. (c.reserve.ensures.stays, refl, (refl, refl, refl)));
  marks = at_err c.from_residual-in_err-reserve.result (λ k e. sym (c.reserve.ensures.marks k) ∙ e);
}

pub returns-in_err-part : goal.returns-in_err-part
returns-in_err-part c = record {
  prepared = search rules;
  kept = at_err c.from_residual.result (λ none. ((λ k. refl), refl, (refl, refl, refl)));
  marks = at_err c.from_residual.result (λ k e. e);
}

use Rattle.std.proofs.Common.{ℕ, [], Some, sym, ap, ◌∙◌}
use Rattle.std.proofs.lemmas.Result.{err_from_is_err_and}
use Rattle.at_model.specs.Run.{Value}
use Rattle.at_store.specs.Shown.{contents}
use Rattle.at_demand.specs.Went.{begun}
use Rattle.at_demand.proofs.InnerAnswered.{answered_by, answered_kept, met_none}
use Rattle.at_evaluate.proofs.of_nesting.InnerGains.{gains_none, known_none}
use Rattle.at_demand.specs.StateOf.{state_of}
use Rattle.at_demand.proofs.of_traces.TurnsPut.{asked_none}
use Rattle.at_demand.proofs.demand.Demand.answer.Goals as goal

pub returns-in-Some : goal.returns-in-Some
returns-in-Some g c = record {
  answered =
      answered_kept c.args.rules.now c.args.store.now c.args.inst.now (g.K.Keeper.contents
      c.args.self.now.keeper) c.args.self.now.work c.in_ok-copy.field-0 c.args.self.now.few
      c.requires.answerable.basis.circular c.requires.answerable.right
      c.requires.answerable.plain
      (sym c.in-Some.ensures ∙ ap (λ (v : Value ℕ). Some v) (sym c.in_ok-copy.ensures));
  traces = record { justified = c.requires.justified; there = λ there all. all };
  makes = λ plain. asked_none (state_of g.K.Keeper.contents g.K.Keeper.memories c.args.self.now) c.args.self.now.few;
  went = begun;
}

pub returns-in_err-copy : goal.returns-in_err-copy
returns-in_err-copy g c = record {
  answered =
      let rules = c.args.rules.now in
      let s = c.args.store.now in
      let entries = g.K.Keeper.contents c.args.self.now.keeper in
      let is = (err_from_is_err_and c.from_residual.result c.from_residual.ensures.1).1 in
      answered_by rules s c.args.inst.now _ entries entries c.args.self.now.work c.args.self.now.work
      (gains_none rules s c.args.inst.now entries [] c.args.self.now.work c.args.self.now.few
      (known_none rules (contents s) entries c.requires.answerable.basis.circular c.requires.answerable.right c.requires.answerable.plain))
      (rw is tt) (λ spare. rw is tt) (λ spare. met_none rules (contents s) c.args.inst.now entries);
  traces = record { justified = c.requires.justified; there = λ there all. all };
  makes = λ plain. asked_none (state_of g.K.Keeper.contents g.K.Keeper.memories c.args.self.now) c.args.self.now.few;
  went = begun;
}

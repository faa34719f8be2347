use Rattle.std.proofs.Common.{ℕ, Some, sym, ap, ◌∙◌}
use Rattle.std.proofs.lemmas.Result.{err_from_is_err_and}
use Rattle.at_model.specs.Run.{Instance}
use Rattle.at_evaluate.specs.Valued.{kept_values}
use Rattle.at_demand.proofs.of_levels.Resolving.{keeps_groups}
use Rattle.at_demand.proofs.of_steps.Turning.{answered_on, broken_off, counted_on, gains_none, kept_off}
use Rattle.at_demand.proofs.of_traces.TurnsPut.{puts_same}
use Rattle.at_demand.proofs.demand.Demand.turn_unless_kept.Goals as goal

pub returns-in_err-copy : goal.returns-in_err-copy
returns-in_err-copy g c =
    let entries = g.K.Keeper.contents c.args.self.now.keeper in
    let is = (err_from_is_err_and c.from_residual.result c.from_residual.ensures.1).1 in
    record {
      turned = broken_off c.args.rules.now c.args.store.now entries entries c.args.self.now.work c.args.self.now.work
          c.args.question.now c.args.question.now c.args.trials.now _ _ is (λ none. none)
          (gains_none c.args.rules.now c.args.store.now entries c.args.self.now.work c.args.self.now.few c.args.question.now
          c.requires.turns.answerable.right c.requires.turns.answerable.plain);
      traces = puts_same (g.K.Keeper.memories c.args.self.now.keeper);
    }

pub returns-in-Some : goal.returns-in-Some
returns-in-Some g c =
    let entries = g.K.Keeper.contents c.args.self.now.keeper in
    let kept = sym (ap (λ w. Some w) c.in_ok-copy.ensures ∙ c.in-Some.ensures ∙ ap (λ (i : Instance ℕ). kept_values entries i) c.asked.ensures) in
    record {
      turned = kept_off c.args.rules.now c.args.store.now entries c.args.self.now.work c.args.self.now.few c.args.question.now
          c.args.trials.now c.in_ok-copy.field-0 c.requires.turns.answerable.right c.requires.turns.answerable.plain c.requires.turns.standing kept;
      traces = puts_same (g.K.Keeper.memories c.args.self.now.keeper);
    }

pub returns-in_err-answer : goal.returns-in_err-answer
returns-in_err-answer g c =
    let is = (err_from_is_err_and c.from_residual-in_err-answer.result c.from_residual-in_err-answer.ensures.1).1 in
    record {
      turned = broken_off c.args.rules.now c.args.store.now (g.K.Keeper.contents c.args.self.now.keeper)
          (g.K.Keeper.contents c.turn_on.new.self.keeper) c.args.self.now.work c.turn_on.new.self.work
          c.args.question.now c.turn_on.new.question c.turn_on.new.trials _ _ is
          (keeps_groups c.args.rules.now c.turn_on.result) c.turn_on.ensures.turned.gains;
      traces = c.turn_on.ensures.traces;
    }

pub returns-in-Some-2 : goal.returns-in-Some-2
returns-in-Some-2 g c =
    record {
      turned = answered_on c.args.rules.now c.args.store.now (g.K.Keeper.contents c.args.self.now.keeper)
          (g.K.Keeper.contents c.turn_on.new.self.keeper) c.args.self.now.work c.turn_on.new.self.work c.args.question.now
          c.turn_on.new.question c.turn_on.new.trials c.in_ok-answer.field-0 c.in-Some-2.answer c.in-Some-2.is c.in_ok-answer.ensures.turned;
      traces = c.turn_on.ensures.traces;
    }

pub returns-in_err-count_turn : goal.returns-in_err-count_turn
returns-in_err-count_turn g c =
    let is = (err_from_is_err_and c.from_residual-in_err-count_turn.result c.from_residual-in_err-count_turn.ensures.1).1 in
    record {
      turned = broken_off c.args.rules.now c.args.store.now (g.K.Keeper.contents c.args.self.now.keeper)
          (g.K.Keeper.contents c.turn_on.new.self.keeper) c.args.self.now.work c.turn_on.new.self.work
          c.args.question.now _ c.turn_on.new.trials _ _ is (λ none. tt) c.in_ok-answer.ensures.turned.gains;
      traces = c.turn_on.ensures.traces;
    }

pub returns : goal.returns
returns g c =
    record {
      turned = counted_on c.args.rules.now c.args.store.now (g.K.Keeper.contents c.args.self.now.keeper)
          (g.K.Keeper.contents c.turn_on.new.self.keeper) c.args.self.now.work c.turn_on.new.self.work c.args.question.now
          c.turn_on.new.question c.turn_on.new.trials c.in_ok-answer.field-0 c.count_turn.new.self c.in_default-2.is c.in_ok-count_turn.ensures c.in_ok-answer.ensures.turned;
      traces = c.turn_on.ensures.traces;
    }

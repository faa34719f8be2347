use Rattle.std.proofs.Common.{Some, sym, ap, ◌∙◌}
use Rattle.std.proofs.lemmas.Result.{err_from_is_err_and}
use Rattle.at_store.specs.Shown.{contents}
use Rattle.at_demand.proofs.Fitting.{noted_same}
use Rattle.at_demand.proofs.of_steps.Along.{goes_past}
use Rattle.at_demand.proofs.of_steps.Counted.{broken_on}
use Rattle.at_demand.proofs.of_steps.KeptIn.{goes_along}
use Rattle.at_demand.proofs.of_steps.PassedOn.{none_is, not_none_level, passed_over}
use Rattle.at_demand.proofs.of_steps.Turning.{gains_none}
use Rattle.at_demand.proofs.of_traces.TurnsPut.{puts_same}
use Rattle.at_demand.proofs.demand.Demand.turn_on.Goals as goal

pub returns-in_err-value : goal.returns-in_err-value
returns-in_err-value g c =
    let entries = g.K.Keeper.contents c.args.self.now.keeper in
    let is = (err_from_is_err_and c.from_residual.result c.from_residual.ensures.1).1 in
    record {
      turned = broken_on c.args.rules.now c.args.store.now c.requires.turns.turns.answerable.basis entries entries
          c.args.self.now.work c.args.self.now.work c.args.question.now c.args.question.now c.args.trials.now _ _ is
          (λ none. none) (gains_none c.args.rules.now c.args.store.now entries c.args.self.now.work c.args.self.now.few
          c.args.question.now c.requires.turns.turns.answerable.right c.requires.turns.turns.answerable.plain);
      traces = puts_same (g.K.Keeper.memories c.args.self.now.keeper);
    }

pub go_along-requires : goal.go_along-requires
go_along-requires g c =
    let entries = g.K.Keeper.contents c.args.self.now.keeper in
    let a = c.requires.turns.turns in
    let kept = sym (ap (λ w. Some w) c.in_ok-value.ensures ∙ c.in-Some.ensures) in
    let (u, x) = a.standing.levels (record { right = a.answerable.right; whole = a.wholes }) in
    goes_along c.args.rules.now c.args.store.now entries c.args.question.now a.answerable a.standing _ kept
    (not_none_level c.args.question.now.level c.is_none.result c.is_none.ensures c.if-is_none.false) u x
    c.forget.new.self c.forget.ensures.frames c.forget.ensures.awaited
    (noted_same c.args.rules.now (contents c.args.store.now) c.args.trials.now.noted.entries
    c.forget.new.self.noted.entries c.forget.ensures.noted
    c.requires.turns.fit.noted)

pub returns-then-is_none : goal.returns-then-is_none
returns-then-is_none g c =
    let entries = g.K.Keeper.contents c.args.self.now.keeper in
    let a = c.requires.turns.turns in
    let kept = sym (ap (λ w. Some w) c.in_ok-value.ensures ∙ c.in-Some.ensures) in
    record {
      turned = passed_over c.args.rules.now c.args.store.now a.answerable.basis entries c.args.self.now.work
          c.args.self.now.few a.answerable.plain (record { right = a.answerable.right; whole = a.wholes }) c.args.question.now a.standing
          (none_is c.args.question.now.level c.is_none.result c.is_none.ensures c.if-is_none.true) c.in_ok-value.value
          kept c.pass_over.new.question
          c.pass_over.new.trials c.args.trials.now c.requires.turns.fit c.pass_over.result c.pass_over.ensures;
      traces = puts_same (g.K.Keeper.memories c.args.self.now.keeper);
    }

pub returns-in-Some : goal.returns-in-Some
returns-in-Some g c =
    let before = g.K.Keeper.contents c.args.self.now.keeper in
    let a = c.requires.turns.turns in
    let kept = sym (ap (λ w. Some w) c.in_ok-value.ensures ∙ c.in-Some.ensures) in
    let e = c.go_along.ensures in
    record {
      turned = goes_past c.args.rules.now c.args.store.now before (g.K.Keeper.contents c.go_along.new.self.keeper)
          (g.K.Keeper.memories c.args.self.now.keeper) (g.K.Keeper.memories c.go_along.new.self.keeper) c.args.self.now.work
          c.go_along.new.self.work c.args.question.now c.go_along.new.question a.answerable a.standing _ kept
          (not_none_level c.args.question.now.level c.is_none.result c.is_none.ensures c.if-is_none.false) c.go_along.new.trials
          (record { right = a.answerable.right; whole = a.wholes }) c.go_along.result e
          (λ none. let p = a.standing.plainly none in not_none_level c.args.question.now.level c.is_none.result c.is_none.ensures c.if-is_none.false p.level);
      traces = e.gains.traces;
    }

use Rattle.std.proofs.Common.{Option, subst, true≢false}
use Rattle.std.proofs.lemmas.Result.{err_from_is_err_and}
use Rattle.std.specs.Prelude.{IfSome}
use Rattle.at_model.specs.of_fixpoints.Fixpoints.{HasValue}
use Rattle.at_store.specs.Shown.{contents}
use Rattle.at_body.specs.Values.{value_view}
use Rattle.at_body.specs.declared.value.Value.{Value as ValueCode}
use Rattle.at_evaluate.specs.Valued.{meaning}
use Rattle.at_evaluate.specs.Sparing.{HasWorthy}
use Rattle.at_demand.proofs.Standing.{sound_more}
use Rattle.at_demand.proofs.InnerAnswered.{answered_after, answered_by}
use Rattle.at_evaluate.proofs.of_nesting.InnerGains.{known_none}
use Rattle.at_demand.proofs.of_steps.Reasoned.{led_met}
use Rattle.at_demand.specs.StateOf.{state_of}
use Rattle.at_demand.proofs.of_traces.TurnsPut.{went_made, went_then}
use Rattle.at_evaluate.proofs.of_traces.Putting.{traced_then}
use Rattle.at_demand.proofs.demand.Demand.answer_anew.Goals as goal

pub returns-in-Some : goal.returns-in-Some
returns-in-Some g c = record {
  answered =
      let rules = c.args.rules.now in
      let s = c.args.store.now in
      let new = g.K.Keeper.contents c.answer_at_once.new.self.keeper in
      answered_by rules s c.args.inst.now _ (g.K.Keeper.contents c.args.self.now.keeper) new
      c.args.self.now.work c.answer_at_once.new.self.work c.answer_at_once.ensures.gains
      (subst (λ (o : Option ValueCode). IfSome o (λ v. HasValue (contents s) (meaning rules) c.args.inst.now (value_view
      v))) c.in-Some.is c.in_ok-at_once.ensures.value)
      (λ spare. subst (λ (o : Option ValueCode). IfSome o (λ v. HasWorthy rules (contents s) c.args.inst.now new))
      c.in-Some.is (c.in_ok-at_once.ensures.all spare))
      (λ spare. led_met rules s c.args.inst.now (record { basis = c.requires.answerable.basis; typed = c.requires.typed })
      (g.K.Keeper.contents c.args.self.now.keeper) new spare c.requires.answerable.right
      c.answer_at_once.ensures.gains.known.right c.answer_at_once.ensures.gains.worthy c.answer_at_once.ensures.led);
  traces = c.answer_at_once.ensures.traces;
  makes = λ plain. record { makes = c.answer_at_once.ensures.makes; counts = c.answer_at_once.ensures.gains.counts };
  went =
      let state = state_of g.K.Keeper.contents g.K.Keeper.memories in
      went_made (state c.args.self.now) (state c.answer_at_once.new.self)
      (record { makes = c.answer_at_once.ensures.makes; counts = c.answer_at_once.ensures.gains.counts });
}

pub returns-in-None : goal.returns-in-None
returns-in-None g c = record {
  answered =
      let rules = c.args.rules.now in
      let s = c.args.store.now in
      let new = g.K.Keeper.contents c.answer_at_once.new.self.keeper in
      answered_after c.args.rules.now c.args.store.now c.args.inst.now c.answer_looking_ahead-told.result
      (g.K.Keeper.contents c.args.self.now.keeper) (g.K.Keeper.contents c.answer_at_once.new.self.keeper)
      (g.K.Keeper.contents c.answer_looking_ahead-told.new.self.keeper)
      c.args.self.now.work c.answer_at_once.new.self.work c.answer_looking_ahead-told.new.self.work c.answer_at_once.ensures.gains
      (λ spare. led_met rules s c.args.inst.now (record { basis = c.requires.answerable.basis; typed = c.requires.typed })
      (g.K.Keeper.contents c.args.self.now.keeper) new spare c.requires.answerable.right
      c.answer_at_once.ensures.gains.known.right c.answer_at_once.ensures.gains.worthy c.answer_at_once.ensures.led)
      c.answer_looking_ahead-told.ensures.answered;
  traces = traced_then c.args.rules.now c.args.store.now c.args.inst.now (g.K.Keeper.memories c.args.self.now.keeper) (g.K.Keeper.memories c.answer_at_once.new.self.keeper)
      (g.K.Keeper.memories c.answer_looking_ahead-told.new.self.keeper) c.answer_at_once.ensures.traces c.answer_looking_ahead-told.ensures.traces;
  makes = λ plain. absurd (true≢false plain);
  went =
      let state = state_of g.K.Keeper.contents g.K.Keeper.memories in
      went_then (state c.args.self.now) (state c.answer_at_once.new.self) (state c.answer_looking_ahead-told.new.self)
      (went_made (state c.args.self.now) (state c.answer_at_once.new.self)
      (record { makes = c.answer_at_once.ensures.makes; counts = c.answer_at_once.ensures.gains.counts }))
      c.answer_looking_ahead-told.ensures.went;
}

pub answer_at_once-requires-clause-idle : goal.answer_at_once-requires-clause-idle
answer_at_once-requires-clause-idle g c = c.requires.answerable.basis.idle

pub answer_at_once-requires-clause-held : goal.answer_at_once-requires-clause-held
answer_at_once-requires-clause-held g c = record {
  known = known_none c.args.rules.now (contents c.args.store.now) (g.K.Keeper.contents c.args.self.now.keeper)
      c.requires.answerable.basis.circular c.requires.answerable.right
      c.requires.answerable.plain;
  justified = c.requires.justified;
}

pub answer_looking_ahead-told-requires : goal.answer_looking_ahead-told-requires
answer_looking_ahead-told-requires g c = record {
  answerable = record {
    basis = c.requires.answerable.basis;
    right = c.answer_at_once.ensures.gains.known.right;
    plain = c.answer_at_once.ensures.gains.known.plain;
  };
  typed = c.requires.typed;
  justified = c.answer_at_once.ensures.traces.justified;
  wholes = (sound_more c.args.rules.now c.args.store.now c.requires.answerable.basis c.args.inst.now c.requires.typed
      (g.K.Keeper.contents c.args.self.now.keeper) (g.K.Keeper.contents c.answer_at_once.new.self.keeper) c.requires.wholes
      c.answer_at_once.ensures.gains.known.right c.answer_at_once.ensures.gains.worthy).whole;
}

pub returns-in_err-at_once : goal.returns-in_err-at_once
returns-in_err-at_once g c = record {
  answered =
      let rules = c.args.rules.now in
      let s = c.args.store.now in
      let new = g.K.Keeper.contents c.answer_at_once.new.self.keeper in
      let is = (err_from_is_err_and c.from_residual.result c.from_residual.ensures.1).1 in
      answered_by rules s c.args.inst.now _ (g.K.Keeper.contents c.args.self.now.keeper) new
      c.args.self.now.work c.answer_at_once.new.self.work c.answer_at_once.ensures.gains (rw is tt) (λ spare. rw is tt)
      (λ spare. led_met rules s c.args.inst.now (record { basis = c.requires.answerable.basis; typed = c.requires.typed })
      (g.K.Keeper.contents c.args.self.now.keeper) new spare c.requires.answerable.right
      c.answer_at_once.ensures.gains.known.right c.answer_at_once.ensures.gains.worthy c.answer_at_once.ensures.led);
  traces = c.answer_at_once.ensures.traces;
  makes = λ plain. record { makes = c.answer_at_once.ensures.makes; counts = c.answer_at_once.ensures.gains.counts };
  went =
      let state = state_of g.K.Keeper.contents g.K.Keeper.memories in
      went_made (state c.args.self.now) (state c.answer_at_once.new.self)
      (record { makes = c.answer_at_once.ensures.makes; counts = c.answer_at_once.ensures.gains.counts });
}

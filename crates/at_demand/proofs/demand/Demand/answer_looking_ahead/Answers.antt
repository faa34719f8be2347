use Rattle.std.proofs.Common.{ℕ, [], Option, Ok, sym, ap, ◌∙◌, subst, true≢false}
use Rattle.std.proofs.lemmas.Result.{err_from_is_err_and}
use Rattle.std.specs.declared.alloc.AllocError.{AllocError}
use Rattle.at_model.specs.Instances.{AnyText}
use Rattle.at_model.specs.Run.{Instance}
use Rattle.at_model.specs.Turning.{posted}
use Rattle.at_model.specs.TypedRuns.{IsWellTyped}
use Rattle.at_model.specs.of_fixpoints.Searching.{posted as search_posted}
use Rattle.at_store.specs.Shown.{contents}
use Rattle.at_body.specs.Typed.{class_shown}
use Rattle.at_demand.specs.declared.answer.Answer.{Answer as AnswerCode}
use Rattle.at_demand.specs.Answerable.{CanBegin}
use Rattle.at_demand.specs.Answered.{HasTurnedWith}
use Rattle.at_demand.specs.Levels.{IsSearch, StandsFor}
use Rattle.at_demand.specs.Went.{begun}
use Rattle.at_demand.proofs.Fitting.{fit_grown, none_fit, none_noted}
use Rattle.at_demand.proofs.InnerAnswered.{answered_by, met_none}
use Rattle.at_evaluate.proofs.of_nesting.InnerGains.{gains_none, known_none}
use Rattle.at_demand.proofs.of_steps.Ahead.{broken_ahead, posted_asked, so_answered, so_broken, so_ended, so_turned, sound_ahead, stands_ahead}
use Rattle.at_demand.specs.StateOf.{state_of}
use Rattle.at_demand.proofs.of_steps.Reasoned.{begun_reasoned}
use Rattle.at_demand.proofs.of_levels.Resolving.{keeps_groups}
use Rattle.at_evaluate.proofs.of_traces.Putting.{traced_same}
use Rattle.at_demand.proofs.demand.Demand.answer_looking_ahead.Goals as goal

pub loop-given-init : goal.loop-given-init
loop-given-init g c =
    let rules = c.args.rules.now in
    let s = c.args.store.now in
    let q = c.in_ok-question.question in
    let entries = g.K.Keeper.contents c.args.self.now.keeper in
    let t = c.new-trials.result in
    let copied = c.in_ok-copy.ensures in
    record {
      so = record {
        same = posted_asked entries q c.args.inst.now (c.in_ok-question.ensures.posted ∙ ap (λ i. posted i) copied)
            (subst (λ (i : Instance ℕ). IsSearch entries q (search_posted i)) copied (c.in_ok-question.ensures.search entries));
        sound = record { right = c.requires.answerable.right; whole = c.requires.wholes };
        standing = c.in_ok-question.ensures.standing entries rules s
            (subst (λ (i : Instance ℕ). IsWellTyped rules (class_shown s) AnyText i) (sym copied) c.requires.typed);
        gains = gains_none rules s c.args.inst.now entries [] c.args.self.now.work c.args.self.now.few
            (known_none rules (contents s) entries c.requires.answerable.basis.circular c.requires.answerable.right c.requires.answerable.plain);
        sparing = λ spare. c.in_ok-question.ensures.sparing entries rules (contents s);
        reasoned = begun_reasoned rules s c.args.inst.now entries q c.requires.answerable.right
            (subst (λ (i : Instance ℕ). StandsFor rules s entries q (search_posted i)) copied
            (c.in_ok-question.ensures.stands entries rules s
            (subst (λ (i : Instance ℕ). IsWellTyped rules (class_shown s) AnyText i) (sym copied) c.requires.typed)
            (record { right = c.requires.answerable.right; whole = c.requires.wholes })));
        traces = traced_same rules s c.args.inst.now (g.K.Keeper.memories c.args.self.now.keeper) c.requires.justified;
        went = begun;
      };
      fit = none_fit rules s entries q t c.new-trials.ensures.frames c.new-trials.ensures.awaited
          (none_noted rules (contents s) t.noted.entries c.new-trials.ensures.noted);
    }

pub look_ahead-requires-clause-idle : goal.look_ahead-requires-clause-idle
look_ahead-requires-clause-idle g c = c.requires.answerable.basis.idle

pub look_ahead-requires-clause-held : goal.look_ahead-requires-clause-held
look_ahead-requires-clause-held g c = record {
  known = c.loop-given.invariant.so.gains.known;
  justified = c.loop-given.invariant.so.traces.justified;
}

pub turn_with-requires : goal.turn_with-requires
turn_with-requires g c =
    let rules = c.args.rules.now in
    let s = c.args.store.now in
    let i = c.args.inst.now in
    let can : CanBegin rules s i = record { basis = c.requires.answerable.basis; typed = c.requires.typed } in
    let state = state_of g.K.Keeper.contents g.K.Keeper.memories in
    let l = c.loop-given in
    let gains = c.look_ahead.ensures.gains in
    record {
      turns = record {
        answerable = record { basis = can.basis; right = gains.known.right; plain = gains.known.plain };
        standing = stands_ahead rules s i can (state c.args.self.now) (state l.self) l.question l.invariant.so (state c.look_ahead.new.self)
            c.look_ahead.ensures;
        wholes = (sound_ahead rules s i can (state c.args.self.now) (state l.self) l.question l.invariant.so (state c.look_ahead.new.self)
            c.look_ahead.ensures).whole;
      };
      fit = record {
        chain = fit_grown rules s (g.K.Keeper.contents l.self.keeper) (g.K.Keeper.contents c.look_ahead.new.self.keeper) gains.worthy.stays
            l.question l.trials.frames.items l.trials.awaited l.invariant.fit.chain;
        noted = l.invariant.fit.noted;
      };
    }

pub loop-given-preserved : goal.loop-given-preserved
loop-given-preserved g c =
    let rules = c.args.rules.now in
    let s = c.args.store.now in
    let i = c.args.inst.now in
    let can : CanBegin rules s i = record { basis = c.requires.answerable.basis; typed = c.requires.typed } in
    let state = state_of g.K.Keeper.contents g.K.Keeper.memories in
    let l = c.loop-given in
    let mid = c.look_ahead.new.self in
    let new = c.turn_with.new in
    let e = subst (λ (o : Option AnswerCode). HasTurnedWith {E = AllocError} rules s (g.K.Keeper.contents mid.keeper)
    (g.K.Keeper.contents new.self.keeper) mid.work new.self.work l.question new.question new.trials (Ok o)) c.in_default.is
    c.in_ok-told.ensures.turned in
    record {
      so = so_turned rules s i can (state c.args.self.now) (state l.self) l.question l.invariant.so (state mid) c.look_ahead.ensures
          (state new.self) c.turn_with.ensures.step new.question new.trials e;
      fit = e.fit;
    }

pub returns-in-Some : goal.returns-in-Some
returns-in-Some g c =
    let rules = c.args.rules.now in
    let s = c.args.store.now in
    let i = c.args.inst.now in
    let can : CanBegin rules s i = record { basis = c.requires.answerable.basis; typed = c.requires.typed } in
    let state = state_of g.K.Keeper.contents g.K.Keeper.memories in
    let l = c.loop-given in
    let mid = c.look_ahead.new.self in
    let new = c.turn_with.new in
    let e = subst (λ (o : Option AnswerCode). HasTurnedWith {E = AllocError} rules s (g.K.Keeper.contents mid.keeper)
    (g.K.Keeper.contents new.self.keeper) mid.work new.self.work l.question new.question new.trials (Ok o)) c.in-Some.is
    c.in_ok-told.ensures.turned in
    so_answered rules s i can (state c.args.self.now) (state l.self) l.question l.invariant.so (state mid) c.look_ahead.ensures
    (state new.self) c.turn_with.ensures.step new.question new.trials c.in-Some.answer e

pub returns-in_err-told : goal.returns-in_err-told
returns-in_err-told g c =
    let rules = c.args.rules.now in
    let s = c.args.store.now in
    let i = c.args.inst.now in
    let can : CanBegin rules s i = record { basis = c.requires.answerable.basis; typed = c.requires.typed } in
    let state = state_of g.K.Keeper.contents g.K.Keeper.memories in
    let l = c.loop-given in
    let mid = c.look_ahead.new.self in
    let new = c.turn_with.new in
    let is = (err_from_is_err_and c.from_residual-in_err-told.result c.from_residual-in_err-told.ensures.1).1 in
    so_broken rules s i can (state c.args.self.now) (state l.self) l.question l.invariant.so (state mid) c.look_ahead.ensures
    (state new.self) c.turn_with.ensures.step _ _ is
    (keeps_groups rules c.turn_with.result) c.turn_with.ensures.turned.gains

pub returns-in_err-next : goal.returns-in_err-next
returns-in_err-next g c =
    let rules = c.args.rules.now in
    let s = c.args.store.now in
    let i = c.args.inst.now in
    let can : CanBegin rules s i = record { basis = c.requires.answerable.basis; typed = c.requires.typed } in
    let state = state_of g.K.Keeper.contents g.K.Keeper.memories in
    let l = c.loop-given in
    let is = (err_from_is_err_and c.from_residual-in_err-next.result c.from_residual-in_err-next.ensures.1).1 in
    broken_ahead rules s i can (state c.args.self.now) (state l.self) l.question l.invariant.so (state c.look_ahead.new.self)
    c.look_ahead.ensures _ _ is

pub returns : goal.returns
returns g c =
    let rules = c.args.rules.now in
    let s = c.args.store.now in
    let i = c.args.inst.now in
    let can : CanBegin rules s i = record { basis = c.requires.answerable.basis; typed = c.requires.typed } in
    let state = state_of g.K.Keeper.contents g.K.Keeper.memories in
    let l = c.loop-given in
    so_ended rules s i can (state c.args.self.now) (state l.self) l.question l.invariant.so _

pub returns-in_err-copy : goal.returns-in_err-copy
returns-in_err-copy g c = record {
  answered =
      let rules = c.args.rules.now in
      let s = c.args.store.now in
      let entries = g.K.Keeper.contents c.args.self.now.keeper in
      let is = (err_from_is_err_and c.from_residual.result c.from_residual.ensures.1).1 in
      answered_by rules s c.args.inst.now _ entries entries c.args.self.now.work c.args.self.now.work
      (gains_none rules s c.args.inst.now entries [] c.args.self.now.work c.args.self.now.few
      (known_none rules (contents s) entries c.requires.answerable.basis.circular c.requires.answerable.right c.requires.answerable.plain)) (rw is tt) (λ spare. rw is tt)
      (λ spare. met_none rules (contents s) c.args.inst.now entries);
  traces = traced_same c.args.rules.now c.args.store.now c.args.inst.now (g.K.Keeper.memories c.args.self.now.keeper) c.requires.justified;
  went = begun;
  makes = λ plain. absurd (true≢false plain);
}

pub returns-in_err-question : goal.returns-in_err-question
returns-in_err-question g c = record {
  answered =
      let rules = c.args.rules.now in
      let s = c.args.store.now in
      let entries = g.K.Keeper.contents c.args.self.now.keeper in
      let is = (err_from_is_err_and c.from_residual-in_err-question.result c.from_residual-in_err-question.ensures.1).1 in
      answered_by rules s c.args.inst.now _ entries entries c.args.self.now.work c.args.self.now.work
      (gains_none rules s c.args.inst.now entries [] c.args.self.now.work c.args.self.now.few
      (known_none rules (contents s) entries c.requires.answerable.basis.circular c.requires.answerable.right c.requires.answerable.plain)) (rw is tt) (λ spare. rw is tt)
      (λ spare. met_none rules (contents s) c.args.inst.now entries);
  traces = traced_same c.args.rules.now c.args.store.now c.args.inst.now (g.K.Keeper.memories c.args.self.now.keeper) c.requires.justified;
  went = begun;
  makes = λ plain. absurd (true≢false plain);
}

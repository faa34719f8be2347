use Rattle.std.proofs.Common.{Option, Ok, subst, arith}
use Rattle.std.proofs.lemmas.Result.{err_from_is_err_and}
use Rattle.std.specs.declared.alloc.AllocError.{AllocError}
use Rattle.at_demand.specs.declared.answer.Answer.{Answer as AnswerCode}
use Rattle.at_demand.specs.Answered.{HasTurnedWith}
use Rattle.at_demand.specs.StateOf.{state_of}
use Rattle.at_demand.specs.Went.{begun}
use Rattle.at_store.specs.Shown.{contents}
use Rattle.at_demand.proofs.Fitting.{fit_grown, none_fit, none_noted}
use Rattle.at_demand.proofs.of_steps.Given.{below_most, given_all, given_answered, given_asked, given_broken, given_more, given_none, given_out}
use Rattle.at_demand.proofs.of_steps.KeptAgain.{again_stays}
use Rattle.at_demand.proofs.of_levels.Resolving.{keeps_groups}
use Rattle.at_demand.proofs.of_traces.TurnsPut.{puts_stay, went_on}
use Rattle.at_evaluate.proofs.of_traces.Justified.{stay_same, stay_then}
use Rattle.at_demand.proofs.demand.Demand.turns.Goals as goal

pub loop-given-init : goal.loop-given-init
loop-given-init g c = record {
  so = given_none c.args.rules.now c.args.store.now (g.K.Keeper.memories c.args.self.now.keeper) c.requires.can.answerable.basis (g.K.Keeper.contents c.args.self.now.keeper)
      c.args.self.now.work c.args.question.now c.args.self.now.few
      (record { right = c.requires.can.answerable.right; whole = c.requires.can.wholes }) c.requires.can.answerable.plain c.requires.can.standing;
  fit = none_fit c.args.rules.now c.args.store.now (g.K.Keeper.contents c.args.self.now.keeper) c.args.question.now c.new-trials.result
      c.new-trials.ensures.frames c.new-trials.ensures.awaited
      (none_noted c.args.rules.now (contents c.args.store.now) c.new-trials.result.noted.entries
      c.new-trials.ensures.noted);
  within = omega arith;
  traces = stay_same (g.K.Keeper.memories c.args.self.now.keeper);
  went = begun;
}

pub loop-given-preserved : goal.loop-given-preserved
loop-given-preserved g c =
    let so = given_asked c.args.rules.now c.args.store.now (g.K.Keeper.memories c.args.self.now.keeper)
    c.requires.can.answerable.basis (g.K.Keeper.contents c.args.self.now.keeper) c.args.self.now.work c.args.question.now
    (g.K.Keeper.contents c.loop-given.self.keeper) c.loop-given.self.work c.loop-given.given c.loop-given.question c.loop-given.invariant.so
    (g.K.Keeper.memories c.loop-given.self.keeper) (g.K.Keeper.memories c.keep_again_in_turns.new.self.keeper)
    (g.K.Keeper.contents c.keep_again_in_turns.new.self.keeper) c.keep_again_in_turns.new.self.work c.loop-given.self.few c.loop-given.invariant.traces
    c.requires.justified (g.K.Keeper.kept_last c.loop-given.self.keeper) c.keeps_in_turns-again.result c.keeps_in_turns-again.ensures
    (λ off. let (entries, memories, work) = c.keep_again_in_turns.ensures.stays off in (entries, work)) c.keep_again_in_turns.ensures.kept in
    let e = subst (λ (o : Option AnswerCode). HasTurnedWith {E = AllocError} c.args.rules.now c.args.store.now
    (g.K.Keeper.contents c.keep_again_in_turns.new.self.keeper) (g.K.Keeper.contents c.turn_with.new.self.keeper) c.keep_again_in_turns.new.self.work
    c.turn_with.new.self.work c.loop-given.question c.turn_with.new.question c.turn_with.new.trials (Ok o)) c.in_default.is
    c.in_ok-told.ensures.turned in
    record {
      so = given_more c.args.rules.now c.args.store.now (g.K.Keeper.memories c.args.self.now.keeper) c.requires.can.answerable.basis
          (g.K.Keeper.contents c.args.self.now.keeper) c.args.self.now.work c.args.question.now (g.K.Keeper.contents c.keep_again_in_turns.new.self.keeper)
          c.keep_again_in_turns.new.self.work c.loop-given.given c.loop-given.question so
          (g.K.Keeper.contents c.turn_with.new.self.keeper) c.turn_with.new.self.work c.turn_with.new.question c.turn_with.new.trials e;
      fit = e.fit;
      within = omega (arith, c.loop-given-test.true);
      traces = stay_then (g.K.Keeper.memories c.args.self.now.keeper) (g.K.Keeper.memories c.loop-given.self.keeper)
          (g.K.Keeper.memories c.turn_with.new.self.keeper) c.loop-given.invariant.traces
          (stay_then (g.K.Keeper.memories c.loop-given.self.keeper) (g.K.Keeper.memories c.keep_again_in_turns.new.self.keeper)
          (g.K.Keeper.memories c.turn_with.new.self.keeper) c.keep_again_in_turns.ensures.kept.stay
          (puts_stay (g.K.Keeper.memories c.keep_again_in_turns.new.self.keeper) (g.K.Keeper.memories c.turn_with.new.self.keeper) c.turn_with.ensures.step.puts));
      went =
          let state = state_of g.K.Keeper.contents g.K.Keeper.memories in
          went_on (state c.args.self.now) (state c.loop-given.self) (state c.keep_again_in_turns.new.self) (state c.turn_with.new.self)
          c.loop-given.question.inst c.loop-given.invariant.went c.loop-given.self.few c.keep_again_in_turns.ensures.kept
          c.keep_again_in_turns.ensures.made c.turn_with.ensures.step;
    }

pub returns-in_err-told : goal.returns-in_err-told
returns-in_err-told g c =
    let so = given_asked c.args.rules.now c.args.store.now (g.K.Keeper.memories c.args.self.now.keeper)
    c.requires.can.answerable.basis (g.K.Keeper.contents c.args.self.now.keeper) c.args.self.now.work c.args.question.now
    (g.K.Keeper.contents c.loop-given.self.keeper) c.loop-given.self.work c.loop-given.given c.loop-given.question c.loop-given.invariant.so
    (g.K.Keeper.memories c.loop-given.self.keeper) (g.K.Keeper.memories c.keep_again_in_turns.new.self.keeper)
    (g.K.Keeper.contents c.keep_again_in_turns.new.self.keeper) c.keep_again_in_turns.new.self.work c.loop-given.self.few c.loop-given.invariant.traces
    c.requires.justified (g.K.Keeper.kept_last c.loop-given.self.keeper) c.keeps_in_turns-again.result c.keeps_in_turns-again.ensures
    (λ off. let (entries, memories, work) = c.keep_again_in_turns.ensures.stays off in (entries, work)) c.keep_again_in_turns.ensures.kept in
    let is = (err_from_is_err_and c.from_residual.result c.from_residual.ensures.1).1 in
    record {
      turned = given_broken c.args.rules.now c.args.store.now (g.K.Keeper.memories c.args.self.now.keeper) c.requires.can.answerable.basis
          (g.K.Keeper.contents c.args.self.now.keeper) c.args.self.now.work c.args.question.now (g.K.Keeper.contents c.keep_again_in_turns.new.self.keeper)
          c.keep_again_in_turns.new.self.work c.loop-given.given c.loop-given.question so
          (g.K.Keeper.contents c.turn_with.new.self.keeper) c.turn_with.new.self.work c.turn_with.new.question c.turn_with.new.trials
          c.args.limit _ _ is (below_most c.args.limit c.loop-given.given c.unwrap_or-most.result c.unwrap_or-most.ensures c.loop-given-test.true)
          (keeps_groups c.args.rules.now c.turn_with.result) c.turn_with.ensures.turned.gains;
      traces = stay_then (g.K.Keeper.memories c.args.self.now.keeper) (g.K.Keeper.memories c.loop-given.self.keeper)
          (g.K.Keeper.memories c.turn_with.new.self.keeper) c.loop-given.invariant.traces
          (stay_then (g.K.Keeper.memories c.loop-given.self.keeper) (g.K.Keeper.memories c.keep_again_in_turns.new.self.keeper)
          (g.K.Keeper.memories c.turn_with.new.self.keeper) c.keep_again_in_turns.ensures.kept.stay
          (puts_stay (g.K.Keeper.memories c.keep_again_in_turns.new.self.keeper) (g.K.Keeper.memories c.turn_with.new.self.keeper) c.turn_with.ensures.step.puts));
      went =
          let state = state_of g.K.Keeper.contents g.K.Keeper.memories in
          went_on (state c.args.self.now) (state c.loop-given.self) (state c.keep_again_in_turns.new.self) (state c.turn_with.new.self)
          c.loop-given.question.inst c.loop-given.invariant.went c.loop-given.self.few c.keep_again_in_turns.ensures.kept
          c.keep_again_in_turns.ensures.made c.turn_with.ensures.step;
    }

pub returns-in-Some : goal.returns-in-Some
returns-in-Some g c =
    let so = given_asked c.args.rules.now c.args.store.now (g.K.Keeper.memories c.args.self.now.keeper)
    c.requires.can.answerable.basis (g.K.Keeper.contents c.args.self.now.keeper) c.args.self.now.work c.args.question.now
    (g.K.Keeper.contents c.loop-given.self.keeper) c.loop-given.self.work c.loop-given.given c.loop-given.question c.loop-given.invariant.so
    (g.K.Keeper.memories c.loop-given.self.keeper) (g.K.Keeper.memories c.keep_again_in_turns.new.self.keeper)
    (g.K.Keeper.contents c.keep_again_in_turns.new.self.keeper) c.keep_again_in_turns.new.self.work c.loop-given.self.few c.loop-given.invariant.traces
    c.requires.justified (g.K.Keeper.kept_last c.loop-given.self.keeper) c.keeps_in_turns-again.result c.keeps_in_turns-again.ensures
    (λ off. let (entries, memories, work) = c.keep_again_in_turns.ensures.stays off in (entries, work)) c.keep_again_in_turns.ensures.kept in
    let e = subst (λ (o : Option AnswerCode). HasTurnedWith {E = AllocError} c.args.rules.now c.args.store.now
    (g.K.Keeper.contents c.keep_again_in_turns.new.self.keeper) (g.K.Keeper.contents c.turn_with.new.self.keeper) c.keep_again_in_turns.new.self.work
    c.turn_with.new.self.work c.loop-given.question c.turn_with.new.question c.turn_with.new.trials (Ok o)) c.in-Some.is
    c.in_ok-told.ensures.turned in
    record {
      turned = given_answered c.args.rules.now c.args.store.now (g.K.Keeper.memories c.args.self.now.keeper) c.requires.can.answerable.basis
          (g.K.Keeper.contents c.args.self.now.keeper) c.args.self.now.work c.args.question.now (g.K.Keeper.contents c.keep_again_in_turns.new.self.keeper)
          c.keep_again_in_turns.new.self.work c.loop-given.given c.loop-given.question so
          (g.K.Keeper.contents c.turn_with.new.self.keeper) c.turn_with.new.self.work c.turn_with.new.question c.turn_with.new.trials
          c.args.limit c.in-Some.answer
          (below_most c.args.limit c.loop-given.given c.unwrap_or-most.result c.unwrap_or-most.ensures c.loop-given-test.true) e;
      traces = stay_then (g.K.Keeper.memories c.args.self.now.keeper) (g.K.Keeper.memories c.loop-given.self.keeper)
          (g.K.Keeper.memories c.turn_with.new.self.keeper) c.loop-given.invariant.traces
          (stay_then (g.K.Keeper.memories c.loop-given.self.keeper) (g.K.Keeper.memories c.keep_again_in_turns.new.self.keeper)
          (g.K.Keeper.memories c.turn_with.new.self.keeper) c.keep_again_in_turns.ensures.kept.stay
          (puts_stay (g.K.Keeper.memories c.keep_again_in_turns.new.self.keeper) (g.K.Keeper.memories c.turn_with.new.self.keeper) c.turn_with.ensures.step.puts));
      went =
          let state = state_of g.K.Keeper.contents g.K.Keeper.memories in
          went_on (state c.args.self.now) (state c.loop-given.self) (state c.keep_again_in_turns.new.self) (state c.turn_with.new.self)
          c.loop-given.question.inst c.loop-given.invariant.went c.loop-given.self.few c.keep_again_in_turns.ensures.kept
          c.keep_again_in_turns.ensures.made c.turn_with.ensures.step;
    }

pub returns-then-is_none : goal.returns-then-is_none
returns-then-is_none g c = record {
  turned = given_out c.args.rules.now c.args.store.now (g.K.Keeper.memories c.args.self.now.keeper) c.requires.can.answerable.basis (g.K.Keeper.contents c.args.self.now.keeper)
      c.args.self.now.work c.args.question.now (g.K.Keeper.contents c.loop-given.self.keeper) c.loop-given.self.work c.loop-given.given c.unwrap_or-most.result
      c.args.limit c.is_none.result c.loop-given.question c.loop-given.trials c.loop-given.invariant.so c.loop-given.self.few c.is_none.ensures c.if-is_none.true
      c.unwrap_or-most.ensures c.loop-given.invariant.within _;
  traces = c.loop-given.invariant.traces;
  went = c.loop-given.invariant.went;
}

pub returns : goal.returns
returns g c = record {
  turned = given_all c.args.rules.now c.args.store.now (g.K.Keeper.memories c.args.self.now.keeper) c.requires.can.answerable.basis (g.K.Keeper.contents c.args.self.now.keeper)
      c.args.self.now.work c.args.question.now (g.K.Keeper.contents c.loop-given.self.keeper) c.loop-given.self.work c.loop-given.given c.unwrap_or-most.result
      c.args.limit c.is_none.result c.loop-given.question c.loop-given.invariant.so c.is_none.ensures c.if-is_none.false c.unwrap_or-most.ensures
      (omega (arith, c.loop-given-test.false, c.loop-given.invariant.within));
  traces = c.loop-given.invariant.traces;
  went = c.loop-given.invariant.went;
}

pub turn_with-requires : goal.turn_with-requires
turn_with-requires g c =
    let so = given_asked c.args.rules.now c.args.store.now (g.K.Keeper.memories c.args.self.now.keeper)
    c.requires.can.answerable.basis (g.K.Keeper.contents c.args.self.now.keeper) c.args.self.now.work c.args.question.now
    (g.K.Keeper.contents c.loop-given.self.keeper) c.loop-given.self.work c.loop-given.given c.loop-given.question c.loop-given.invariant.so
    (g.K.Keeper.memories c.loop-given.self.keeper) (g.K.Keeper.memories c.keep_again_in_turns.new.self.keeper)
    (g.K.Keeper.contents c.keep_again_in_turns.new.self.keeper) c.keep_again_in_turns.new.self.work c.loop-given.self.few c.loop-given.invariant.traces
    c.requires.justified (g.K.Keeper.kept_last c.loop-given.self.keeper) c.keeps_in_turns-again.result c.keeps_in_turns-again.ensures
    (λ off. let (entries, memories, work) = c.keep_again_in_turns.ensures.stays off in (entries, work)) c.keep_again_in_turns.ensures.kept in
    let l = g.K.Keeper.memories c.loop-given.self.keeper in
    let old = g.K.Keeper.contents c.loop-given.self.keeper in
    let mid = g.K.Keeper.contents c.keep_again_in_turns.new.self.keeper in
    let q = c.loop-given.question in
    record {
      turns = record {
        answerable = record { basis = c.requires.can.answerable.basis; right = so.sound.right; plain = so.plain };
        standing = so.standing;
        wholes = so.sound.whole;
      };
      fit = record {
        chain = fit_grown c.args.rules.now c.args.store.now old mid
            (again_stays l q.inst old mid (c.keep_again_in_turns.ensures.kept.count, c.keep_again_in_turns.ensures.kept.settled))
            q c.loop-given.trials.frames.items c.loop-given.trials.awaited c.loop-given.invariant.fit.chain;
        noted = c.loop-given.invariant.fit.noted;
      };
    }

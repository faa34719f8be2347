use Rattle.std.proofs.Common.{Ok, refl, sym, subst}
use Rattle.std.proofs.lemmas.Result.{err_from_is_err_and}
use Rattle.std.specs.declared.alloc.AllocError.{AllocError}
use Rattle.at_demand.specs.declared.demand.searching.Resolved.{Resolved}
use Rattle.at_demand.specs.declared.trying.Going.{Going}
use Rattle.at_demand.specs.declared.trying.Tried.{Tried}
use Rattle.at_demand.specs.Searches.{HasResolved}
use Rattle.at_demand.specs.Tries.{HasCarriedOn}
use Rattle.at_demand.proofs.of_steps.TriedOn.{begins_trying}
use Rattle.at_demand.proofs.of_steps.TryingOn.{can_carry, can_close_last, can_fail_last, can_form_last, can_resolve, can_spoil_last, carry_fails, closed_last, deeper_from, fails_last, forms_last, known_fewer, known_goes, resolve_fails, spoilt_last}
use Rattle.at_demand.proofs.of_steps.TryUnderWay.{IsTrying, trying_with}
use Rattle.at_demand.proofs.of_steps.Counted.{broken_on}
use Rattle.at_demand.proofs.of_steps.Turning.{gains_none}
use Rattle.at_demand.proofs.of_steps.ValueTried.{found_last, kept_last}
use Rattle.at_demand.proofs.of_traces.TurnsPut.{puts_same, puts_then}
use Rattle.at_demand.proofs.demand.Demand.try_last.Goals as goal

pub loop-value-init : goal.loop-value-init
loop-value-init g c =
    let m = c.args.self.now in
    begins_trying c.args.rules.now c.args.store.now (g.K.Keeper.contents m.keeper) (g.K.Keeper.memories m.keeper) m.work c.args.question.now
    c.args.trials.now c.requires m.few c.trial_of.new.trials c.trial_of.ensures.none c.trial_of.ensures.fit c.in_ok-going.going c.in_ok-going.ensures.standing

pub carry_on-requires : goal.carry_on-requires
carry_on-requires g c =
    let l = c.loop-value in
    can_carry c.args.rules.now c.args.store.now (g.K.Keeper.contents c.args.self.now.keeper) (g.K.Keeper.contents l.self.keeper)
    (g.K.Keeper.memories c.args.self.now.keeper) (g.K.Keeper.memories l.self.keeper) c.args.self.now.work l.self.work
    c.args.question.now l.question
    l.trials l.going l.invariant

pub returns-in_err-value : goal.returns-in_err-value
returns-in_err-value g c =
    let l = c.loop-value in
    let is = (err_from_is_err_and c.from_residual-in_err-value.result c.from_residual-in_err-value.ensures.1).1 in
    record {
      turned = carry_fails c.args.rules.now c.args.store.now (g.K.Keeper.contents c.args.self.now.keeper) (g.K.Keeper.contents l.self.keeper)
          (g.K.Keeper.memories c.args.self.now.keeper) (g.K.Keeper.memories l.self.keeper) c.args.self.now.work l.self.work c.args.question.now l.question
          l.trials l.going l.invariant
          (g.K.Keeper.contents c.carry_on.new.self.keeper) (g.K.Keeper.memories c.carry_on.new.self.keeper) c.carry_on.new.self.work
          c.carry_on.ensures.traces c.requires.turns.turns c.carry_on.result c.carry_on.ensures.tried l.question l.trials _ _ is;
      traces = (puts_then (g.K.Keeper.memories c.args.self.now.keeper) (g.K.Keeper.memories l.self.keeper) (g.K.Keeper.memories c.carry_on.new.self.keeper) l.invariant.gains.traces c.carry_on.ensures.traces);
    }

pub returns-in-Kept : goal.returns-in-Kept
returns-in-Kept g c =
    let l = c.loop-value in
    record {
      turned = kept_last c.args.rules.now c.args.store.now (g.K.Keeper.contents c.args.self.now.keeper) (g.K.Keeper.contents l.self.keeper) (g.K.Keeper.contents c.carry_on.new.self.keeper)
          (g.K.Keeper.memories c.args.self.now.keeper) (g.K.Keeper.memories l.self.keeper) (g.K.Keeper.memories c.carry_on.new.self.keeper) c.args.self.now.work
          l.self.work c.carry_on.new.self.work c.args.question.now l.question l.trials l.going l.invariant c.requires.turns.turns c.carry_on.ensures.traces c.in-Kept.value
          (subst (λ (z : Tried). HasCarriedOn {E = AllocError} c.args.rules.now c.args.store.now (g.K.Keeper.contents l.self.keeper)
          (g.K.Keeper.contents c.carry_on.new.self.keeper) l.self.work c.carry_on.new.self.work l.question.found.entries l.question.inst (Ok z)) c.in-Kept.is
          c.in_ok-value.ensures.tried) c.pass_last.new.question c.pass_last.new.trials c.pass_last.result c.pass_last.ensures;
      traces = (puts_then (g.K.Keeper.memories c.args.self.now.keeper) (g.K.Keeper.memories l.self.keeper) (g.K.Keeper.memories c.carry_on.new.self.keeper) l.invariant.gains.traces c.carry_on.ensures.traces);
    }

pub returns-in-Found : goal.returns-in-Found
returns-in-Found g c =
    let l = c.loop-value in
    record {
      turned = found_last c.args.rules.now c.args.store.now (g.K.Keeper.contents c.args.self.now.keeper) (g.K.Keeper.contents l.self.keeper) (g.K.Keeper.contents c.carry_on.new.self.keeper)
          (g.K.Keeper.memories c.args.self.now.keeper) (g.K.Keeper.memories l.self.keeper) (g.K.Keeper.memories c.carry_on.new.self.keeper) c.args.self.now.work
          l.self.work c.carry_on.new.self.work c.args.question.now l.question l.trials l.going l.invariant c.requires.turns.turns c.carry_on.ensures.traces c.in-Found.find
          (subst (λ (z : Tried). HasCarriedOn {E = AllocError} c.args.rules.now c.args.store.now (g.K.Keeper.contents l.self.keeper)
          (g.K.Keeper.contents c.carry_on.new.self.keeper) l.self.work c.carry_on.new.self.work l.question.found.entries l.question.inst (Ok z)) c.in-Found.is
          c.in_ok-value.ensures.tried) c.settle_last.new.question c.settle_last.new.trials c.settle_last.result c.settle_last.ensures;
      traces = (puts_then (g.K.Keeper.memories c.args.self.now.keeper) (g.K.Keeper.memories l.self.keeper) (g.K.Keeper.memories c.carry_on.new.self.keeper) l.invariant.gains.traces c.carry_on.ensures.traces);
    }

pub form-requires-clause-can : goal.form-requires-clause-can
form-requires-clause-can g c =
    let l = c.loop-value in
    can_form_last c.args.rules.now c.args.store.now (g.K.Keeper.contents c.args.self.now.keeper) (g.K.Keeper.contents l.self.keeper)
    (g.K.Keeper.memories c.args.self.now.keeper) (g.K.Keeper.memories l.self.keeper) c.args.self.now.work l.self.work
    c.args.question.now l.question
    l.trials l.going l.invariant (g.K.Keeper.contents c.carry_on.new.self.keeper) (g.K.Keeper.memories c.carry_on.new.self.keeper) c.carry_on.new.self.work
    c.carry_on.ensures.traces c.requires.turns.turns c.in-Forms.formed
    (subst (λ (z : Tried). HasCarriedOn {E = AllocError} c.args.rules.now c.args.store.now (g.K.Keeper.contents l.self.keeper)
    (g.K.Keeper.contents c.carry_on.new.self.keeper) l.self.work c.carry_on.new.self.work l.question.found.entries l.question.inst (Ok z)) c.in-Forms.is
    c.in_ok-value.ensures.tried)

pub returns-in-Forms : goal.returns-in-Forms
returns-in-Forms g c =
    let l = c.loop-value in
    record {
      turned = forms_last c.args.rules.now c.args.store.now (g.K.Keeper.contents c.args.self.now.keeper) (g.K.Keeper.contents l.self.keeper)
          (g.K.Keeper.memories c.args.self.now.keeper) (g.K.Keeper.memories l.self.keeper) c.args.self.now.work l.self.work c.args.question.now l.question
          l.trials l.going l.invariant (g.K.Keeper.contents c.carry_on.new.self.keeper) (g.K.Keeper.memories c.carry_on.new.self.keeper) c.carry_on.new.self.work
          c.carry_on.ensures.traces c.requires.turns.turns c.in-Forms.formed
          (subst (λ (z : Tried). HasCarriedOn {E = AllocError} c.args.rules.now c.args.store.now (g.K.Keeper.contents l.self.keeper)
          (g.K.Keeper.contents c.carry_on.new.self.keeper) l.self.work c.carry_on.new.self.work l.question.found.entries l.question.inst (Ok z)) c.in-Forms.is
          c.in_ok-value.ensures.tried) (g.K.Keeper.contents c.form.new.self.keeper) (g.K.Keeper.memories c.form.new.self.keeper) c.form.new.self.work c.form.new.question
          c.form.new.trials c.form.result c.form.ensures;
      traces = puts_then (g.K.Keeper.memories c.args.self.now.keeper) (g.K.Keeper.memories c.carry_on.new.self.keeper) (g.K.Keeper.memories c.form.new.self.keeper) (puts_then (g.K.Keeper.memories c.args.self.now.keeper) (g.K.Keeper.memories l.self.keeper) (g.K.Keeper.memories c.carry_on.new.self.keeper) l.invariant.gains.traces c.carry_on.ensures.traces) c.form.ensures.gains.traces;
    }

pub returns-in_err-at-in-Fails : goal.returns-in_err-at-in-Fails
returns-in_err-at-in-Fails g c =
    let l = c.loop-value in
    let is = (err_from_is_err_and c.from_residual-in_err-at-in-Fails.result c.from_residual-in_err-at-in-Fails.ensures.1).1 in
    record {
      turned = carry_fails c.args.rules.now c.args.store.now (g.K.Keeper.contents c.args.self.now.keeper) (g.K.Keeper.contents l.self.keeper)
          (g.K.Keeper.memories c.args.self.now.keeper) (g.K.Keeper.memories l.self.keeper) c.args.self.now.work l.self.work c.args.question.now l.question
          l.trials l.going l.invariant
          (g.K.Keeper.contents c.carry_on.new.self.keeper) (g.K.Keeper.memories c.carry_on.new.self.keeper) c.carry_on.new.self.work
          c.carry_on.ensures.traces c.requires.turns.turns c.carry_on.result c.carry_on.ensures.tried l.question l.trials _ _ is;
      traces = (puts_then (g.K.Keeper.memories c.args.self.now.keeper) (g.K.Keeper.memories l.self.keeper) (g.K.Keeper.memories c.carry_on.new.self.keeper) l.invariant.gains.traces c.carry_on.ensures.traces);
    }

pub spoil-requires : goal.spoil-requires
spoil-requires g c =
    let l = c.loop-value in
    can_fail_last c.args.rules.now c.args.store.now (g.K.Keeper.contents c.args.self.now.keeper) (g.K.Keeper.contents l.self.keeper)
    (g.K.Keeper.memories c.args.self.now.keeper) (g.K.Keeper.memories l.self.keeper) c.args.self.now.work l.self.work
    c.args.question.now l.question
    l.trials l.going l.invariant (g.K.Keeper.contents c.carry_on.new.self.keeper) (g.K.Keeper.memories c.carry_on.new.self.keeper) c.carry_on.new.self.work
    c.carry_on.ensures.traces c.requires.turns.turns c.in-Fails.kind
    (subst (λ (z : Tried). HasCarriedOn {E = AllocError} c.args.rules.now c.args.store.now (g.K.Keeper.contents l.self.keeper)
    (g.K.Keeper.contents c.carry_on.new.self.keeper) l.self.work c.carry_on.new.self.work l.question.found.entries l.question.inst (Ok z)) c.in-Fails.is
    c.in_ok-value.ensures.tried) (record { kind = c.in-Fails.kind; at = c.in_ok-at-in-Fails.at }) refl c.in_ok-at-in-Fails.ensures

pub returns-in-Fails : goal.returns-in-Fails
returns-in-Fails g c =
    let l = c.loop-value in
    record {
      turned = fails_last c.args.rules.now c.args.store.now (g.K.Keeper.contents c.args.self.now.keeper) (g.K.Keeper.contents l.self.keeper)
          (g.K.Keeper.memories c.args.self.now.keeper) (g.K.Keeper.memories l.self.keeper) c.args.self.now.work l.self.work c.args.question.now l.question
          l.trials l.going l.invariant (g.K.Keeper.contents c.carry_on.new.self.keeper) (g.K.Keeper.memories c.carry_on.new.self.keeper) c.carry_on.new.self.work
          c.carry_on.ensures.traces c.requires.turns.turns c.in-Fails.kind
          (subst (λ (z : Tried). HasCarriedOn {E = AllocError} c.args.rules.now c.args.store.now (g.K.Keeper.contents l.self.keeper)
          (g.K.Keeper.contents c.carry_on.new.self.keeper) l.self.work c.carry_on.new.self.work l.question.found.entries l.question.inst (Ok z)) c.in-Fails.is
          c.in_ok-value.ensures.tried)
          (g.K.Keeper.contents c.spoil.new.self.keeper) (g.K.Keeper.memories c.spoil.new.self.keeper) c.spoil.new.self.work c.spoil.new.question c.spoil.new.trials (record { kind = c.in-Fails.kind; at = c.in_ok-at-in-Fails.at }) c.spoil.result c.spoil.ensures;
      traces = puts_then (g.K.Keeper.memories c.args.self.now.keeper) (g.K.Keeper.memories c.carry_on.new.self.keeper) (g.K.Keeper.memories c.spoil.new.self.keeper) (puts_then (g.K.Keeper.memories c.args.self.now.keeper) (g.K.Keeper.memories l.self.keeper) (g.K.Keeper.memories c.carry_on.new.self.keeper) l.invariant.gains.traces c.carry_on.ensures.traces) c.spoil.ensures.gains.traces;
    }

pub resolve_noted-requires-clause-can : goal.resolve_noted-requires-clause-can
resolve_noted-requires-clause-can g c =
    let l = c.loop-value in
    can_resolve c.args.rules.now c.args.store.now (g.K.Keeper.contents c.args.self.now.keeper) (g.K.Keeper.contents l.self.keeper)
    (g.K.Keeper.memories c.args.self.now.keeper) (g.K.Keeper.memories l.self.keeper) c.args.self.now.work l.self.work
    c.args.question.now l.question
    l.trials l.going l.invariant (g.K.Keeper.contents c.carry_on.new.self.keeper) (g.K.Keeper.memories c.carry_on.new.self.keeper) c.carry_on.new.self.work
    c.carry_on.ensures.traces c.requires.turns.turns c.in-Waits.trying c.in-Waits.needed
    (subst (λ (z : Tried). HasCarriedOn {E = AllocError} c.args.rules.now c.args.store.now (g.K.Keeper.contents l.self.keeper)
    (g.K.Keeper.contents c.carry_on.new.self.keeper) l.self.work c.carry_on.new.self.work l.question.found.entries l.question.inst (Ok z)) c.in-Waits.is
    c.in_ok-value.ensures.tried)

pub resolve_noted-requires-clause-noted : goal.resolve_noted-requires-clause-noted
resolve_noted-requires-clause-noted g c = c.loop-value.invariant.turns.fit.noted

pub returns-in_err-resolve_noted-in-Waits : goal.returns-in_err-resolve_noted-in-Waits
returns-in_err-resolve_noted-in-Waits g c =
    let l = c.loop-value in
    let is = (err_from_is_err_and c.from_residual-in_err-resolve_noted-in-Waits.result
    c.from_residual-in_err-resolve_noted-in-Waits.ensures.1).1 in
    record {
      turned = resolve_fails c.args.rules.now c.args.store.now (g.K.Keeper.contents c.args.self.now.keeper) (g.K.Keeper.contents l.self.keeper)
          (g.K.Keeper.memories c.args.self.now.keeper) (g.K.Keeper.memories l.self.keeper) c.args.self.now.work l.self.work c.args.question.now l.question
          l.trials l.going l.invariant (g.K.Keeper.contents c.carry_on.new.self.keeper) (g.K.Keeper.memories c.carry_on.new.self.keeper) c.carry_on.new.self.work
          c.carry_on.ensures.traces c.requires.turns.turns c.in-Waits.trying c.in-Waits.needed
          (subst (λ (z : Tried). HasCarriedOn {E = AllocError} c.args.rules.now c.args.store.now (g.K.Keeper.contents l.self.keeper)
          (g.K.Keeper.contents c.carry_on.new.self.keeper) l.self.work c.carry_on.new.self.work l.question.found.entries l.question.inst (Ok z)) c.in-Waits.is
          c.in_ok-value.ensures.tried)
          (g.K.Keeper.contents c.resolve_noted.new.self.keeper) (g.K.Keeper.memories c.resolve_noted.new.self.keeper)
          c.resolve_noted.new.self.work c.resolve_noted.new.question c.resolve_noted.result
          c.resolve_noted.ensures.resolved c.resolve_noted.new.trials _ _ is;
      traces = (puts_then (g.K.Keeper.memories c.args.self.now.keeper) (g.K.Keeper.memories
          c.carry_on.new.self.keeper) (g.K.Keeper.memories c.resolve_noted.new.self.keeper) (puts_then
          (g.K.Keeper.memories c.args.self.now.keeper) (g.K.Keeper.memories l.self.keeper) (g.K.Keeper.memories
          c.carry_on.new.self.keeper) l.invariant.gains.traces c.carry_on.ensures.traces)
          c.resolve_noted.ensures.resolved.tells.traces);
    }

pub loop-value-preserved : goal.loop-value-preserved
loop-value-preserved g c =
    let l = c.loop-value in
    let w = trying_with c.args.rules.now c.args.store.now (g.K.Keeper.contents
    c.args.self.now.keeper) (g.K.Keeper.contents l.self.keeper)
    (g.K.Keeper.memories c.args.self.now.keeper) (g.K.Keeper.memories l.self.keeper) c.args.self.now.work l.self.work
    c.args.question.now l.question
    l.trials c.resolve_noted.new.trials l.going l.invariant c.resolve_noted.ensures.frames
    c.resolve_noted.ensures.awaited
    c.resolve_noted.ensures.noted in
    subst (λ (z : Going). IsTrying c.args.rules.now c.args.store.now (g.K.Keeper.contents c.args.self.now.keeper)
    (g.K.Keeper.contents c.resolve_noted.new.self.keeper) (g.K.Keeper.memories c.args.self.now.keeper)
    (g.K.Keeper.memories c.resolve_noted.new.self.keeper)
    c.args.self.now.work c.resolve_noted.new.self.work c.args.question.now c.resolve_noted.new.question
    c.resolve_noted.new.trials z) (sym c.going-going.ensures)
    (known_goes c.args.rules.now c.args.store.now (g.K.Keeper.contents c.args.self.now.keeper) (g.K.Keeper.contents l.self.keeper)
    (g.K.Keeper.memories c.args.self.now.keeper) (g.K.Keeper.memories l.self.keeper) c.args.self.now.work l.self.work
    c.args.question.now l.question
    c.resolve_noted.new.trials l.going w (g.K.Keeper.contents c.carry_on.new.self.keeper) (g.K.Keeper.memories
    c.carry_on.new.self.keeper) c.carry_on.new.self.work
    c.carry_on.ensures.traces c.requires.turns.turns c.in-Waits.trying c.in-Waits.needed
    (subst (λ (z : Tried). HasCarriedOn {E = AllocError} c.args.rules.now c.args.store.now (g.K.Keeper.contents l.self.keeper)
    (g.K.Keeper.contents c.carry_on.new.self.keeper) l.self.work c.carry_on.new.self.work l.question.found.entries l.question.inst (Ok z)) c.in-Waits.is
    c.in_ok-value.ensures.tried)
    (g.K.Keeper.contents c.resolve_noted.new.self.keeper) (g.K.Keeper.memories c.resolve_noted.new.self.keeper)
    c.resolve_noted.new.self.work c.resolve_noted.new.question (subst (λ (z : Resolved). HasResolved {E =
    AllocError} c.args.rules.now c.args.store.now
    (g.K.Keeper.contents c.carry_on.new.self.keeper) (g.K.Keeper.contents c.resolve_noted.new.self.keeper)
    (g.K.Keeper.memories c.carry_on.new.self.keeper)
    (g.K.Keeper.memories c.resolve_noted.new.self.keeper) c.carry_on.new.self.work c.resolve_noted.new.self.work
    l.question c.resolve_noted.new.question c.in-Waits.needed (Ok z))
    c.in-Known.is c.in_ok-resolve_noted-in-Waits.ensures.resolved))

pub loop-value-smaller : goal.loop-value-smaller
loop-value-smaller g c =
    let l = c.loop-value in
    let w = trying_with c.args.rules.now c.args.store.now (g.K.Keeper.contents
    c.args.self.now.keeper) (g.K.Keeper.contents l.self.keeper)
    (g.K.Keeper.memories c.args.self.now.keeper) (g.K.Keeper.memories l.self.keeper) c.args.self.now.work l.self.work
    c.args.question.now l.question
    l.trials c.resolve_noted.new.trials l.going l.invariant c.resolve_noted.ensures.frames
    c.resolve_noted.ensures.awaited
    c.resolve_noted.ensures.noted in
    known_fewer c.args.rules.now c.args.store.now (g.K.Keeper.contents c.args.self.now.keeper) (g.K.Keeper.contents l.self.keeper)
    (g.K.Keeper.memories c.args.self.now.keeper) (g.K.Keeper.memories l.self.keeper) c.args.self.now.work l.self.work
    c.args.question.now l.question
    c.resolve_noted.new.trials l.going w (g.K.Keeper.contents c.carry_on.new.self.keeper) (g.K.Keeper.memories
    c.carry_on.new.self.keeper) c.carry_on.new.self.work
    c.carry_on.ensures.traces c.requires.turns.turns c.in-Waits.trying c.in-Waits.needed
    (subst (λ (z : Tried). HasCarriedOn {E = AllocError} c.args.rules.now c.args.store.now (g.K.Keeper.contents l.self.keeper)
    (g.K.Keeper.contents c.carry_on.new.self.keeper) l.self.work c.carry_on.new.self.work l.question.found.entries l.question.inst (Ok z)) c.in-Waits.is
    c.in_ok-value.ensures.tried)
    (g.K.Keeper.contents c.resolve_noted.new.self.keeper) (g.K.Keeper.memories c.resolve_noted.new.self.keeper)
    c.resolve_noted.new.self.work c.resolve_noted.new.question (subst (λ (z : Resolved). HasResolved {E =
    AllocError} c.args.rules.now c.args.store.now
    (g.K.Keeper.contents c.carry_on.new.self.keeper) (g.K.Keeper.contents c.resolve_noted.new.self.keeper)
    (g.K.Keeper.memories c.carry_on.new.self.keeper)
    (g.K.Keeper.memories c.resolve_noted.new.self.keeper) c.carry_on.new.self.work c.resolve_noted.new.self.work
    l.question c.resolve_noted.new.question c.in-Waits.needed (Ok z))
    c.in-Known.is c.in_ok-resolve_noted-in-Waits.ensures.resolved)

pub spoil-requires-in-Spoilt : goal.spoil-requires-in-Spoilt
spoil-requires-in-Spoilt g c =
    let l = c.loop-value in
    let w = trying_with c.args.rules.now c.args.store.now (g.K.Keeper.contents
    c.args.self.now.keeper) (g.K.Keeper.contents l.self.keeper)
    (g.K.Keeper.memories c.args.self.now.keeper) (g.K.Keeper.memories l.self.keeper) c.args.self.now.work l.self.work
    c.args.question.now l.question
    l.trials c.resolve_noted.new.trials l.going l.invariant c.resolve_noted.ensures.frames
    c.resolve_noted.ensures.awaited
    c.resolve_noted.ensures.noted in
    can_spoil_last c.args.rules.now c.args.store.now (g.K.Keeper.contents c.args.self.now.keeper) (g.K.Keeper.contents l.self.keeper)
    (g.K.Keeper.memories c.args.self.now.keeper) (g.K.Keeper.memories l.self.keeper) c.args.self.now.work l.self.work
    c.args.question.now l.question
    c.resolve_noted.new.trials l.going w (g.K.Keeper.contents c.carry_on.new.self.keeper) (g.K.Keeper.memories
    c.carry_on.new.self.keeper) c.carry_on.new.self.work
    c.carry_on.ensures.traces c.requires.turns.turns c.in-Waits.trying c.in-Waits.needed
    (subst (λ (z : Tried). HasCarriedOn {E = AllocError} c.args.rules.now c.args.store.now (g.K.Keeper.contents l.self.keeper)
    (g.K.Keeper.contents c.carry_on.new.self.keeper) l.self.work c.carry_on.new.self.work l.question.found.entries l.question.inst (Ok z)) c.in-Waits.is
    c.in_ok-value.ensures.tried)
    (g.K.Keeper.contents c.resolve_noted.new.self.keeper) (g.K.Keeper.memories c.resolve_noted.new.self.keeper)
    c.resolve_noted.new.self.work c.resolve_noted.new.question c.in-Spoilt.fault (subst (λ (z : Resolved).
    HasResolved {E = AllocError} c.args.rules.now c.args.store.now
    (g.K.Keeper.contents c.carry_on.new.self.keeper) (g.K.Keeper.contents c.resolve_noted.new.self.keeper)
    (g.K.Keeper.memories c.carry_on.new.self.keeper)
    (g.K.Keeper.memories c.resolve_noted.new.self.keeper) c.carry_on.new.self.work c.resolve_noted.new.self.work
    l.question c.resolve_noted.new.question c.in-Waits.needed (Ok z))
    c.in-Spoilt.is c.in_ok-resolve_noted-in-Waits.ensures.resolved)

pub returns-in-Spoilt : goal.returns-in-Spoilt
returns-in-Spoilt g c =
    let l = c.loop-value in
    let w = trying_with c.args.rules.now c.args.store.now (g.K.Keeper.contents
    c.args.self.now.keeper) (g.K.Keeper.contents l.self.keeper)
    (g.K.Keeper.memories c.args.self.now.keeper) (g.K.Keeper.memories l.self.keeper) c.args.self.now.work l.self.work
    c.args.question.now l.question
    l.trials c.resolve_noted.new.trials l.going l.invariant c.resolve_noted.ensures.frames
    c.resolve_noted.ensures.awaited
    c.resolve_noted.ensures.noted in
    record {
      turned = spoilt_last c.args.rules.now c.args.store.now (g.K.Keeper.contents c.args.self.now.keeper) (g.K.Keeper.contents l.self.keeper)
          (g.K.Keeper.memories c.args.self.now.keeper) (g.K.Keeper.memories l.self.keeper) c.args.self.now.work l.self.work c.args.question.now l.question
          c.resolve_noted.new.trials l.going w (g.K.Keeper.contents c.carry_on.new.self.keeper) (g.K.Keeper.memories
          c.carry_on.new.self.keeper) c.carry_on.new.self.work
          c.carry_on.ensures.traces c.requires.turns.turns c.in-Waits.trying c.in-Waits.needed
          (subst (λ (z : Tried). HasCarriedOn {E = AllocError} c.args.rules.now c.args.store.now (g.K.Keeper.contents l.self.keeper)
          (g.K.Keeper.contents c.carry_on.new.self.keeper) l.self.work c.carry_on.new.self.work l.question.found.entries l.question.inst (Ok z)) c.in-Waits.is
          c.in_ok-value.ensures.tried)
          (g.K.Keeper.contents c.resolve_noted.new.self.keeper) (g.K.Keeper.memories c.resolve_noted.new.self.keeper)
          c.resolve_noted.new.self.work c.resolve_noted.new.question c.in-Spoilt.fault (subst (λ (z : Resolved).
          HasResolved {E = AllocError} c.args.rules.now c.args.store.now
          (g.K.Keeper.contents c.carry_on.new.self.keeper) (g.K.Keeper.contents c.resolve_noted.new.self.keeper)
          (g.K.Keeper.memories c.carry_on.new.self.keeper)
          (g.K.Keeper.memories c.resolve_noted.new.self.keeper) c.carry_on.new.self.work c.resolve_noted.new.self.work
          l.question c.resolve_noted.new.question c.in-Waits.needed (Ok z))
          c.in-Spoilt.is c.in_ok-resolve_noted-in-Waits.ensures.resolved)
          (g.K.Keeper.contents c.spoil-in-Spoilt.new.self.keeper) (g.K.Keeper.memories c.spoil-in-Spoilt.new.self.keeper) c.spoil-in-Spoilt.new.self.work c.spoil-in-Spoilt.new.question c.spoil-in-Spoilt.new.trials c.spoil-in-Spoilt.result c.spoil-in-Spoilt.ensures;
      traces = puts_then (g.K.Keeper.memories c.args.self.now.keeper) (g.K.Keeper.memories
          c.resolve_noted.new.self.keeper) (g.K.Keeper.memories c.spoil-in-Spoilt.new.self.keeper) (puts_then
          (g.K.Keeper.memories c.args.self.now.keeper) (g.K.Keeper.memories c.carry_on.new.self.keeper)
          (g.K.Keeper.memories c.resolve_noted.new.self.keeper) (puts_then (g.K.Keeper.memories
          c.args.self.now.keeper) (g.K.Keeper.memories l.self.keeper) (g.K.Keeper.memories c.carry_on.new.self.keeper)
          l.invariant.gains.traces c.carry_on.ensures.traces) c.resolve_noted.ensures.resolved.tells.traces)
          c.spoil-in-Spoilt.ensures.gains.traces;
    }

pub close-requires : goal.close-requires
close-requires g c =
    let l = c.loop-value in
    let w = trying_with c.args.rules.now c.args.store.now (g.K.Keeper.contents
    c.args.self.now.keeper) (g.K.Keeper.contents l.self.keeper)
    (g.K.Keeper.memories c.args.self.now.keeper) (g.K.Keeper.memories l.self.keeper) c.args.self.now.work l.self.work
    c.args.question.now l.question
    l.trials c.resolve_noted.new.trials l.going l.invariant c.resolve_noted.ensures.frames
    c.resolve_noted.ensures.awaited
    c.resolve_noted.ensures.noted in
    can_close_last c.args.rules.now c.args.store.now (g.K.Keeper.contents c.args.self.now.keeper) (g.K.Keeper.contents l.self.keeper)
    (g.K.Keeper.memories c.args.self.now.keeper) (g.K.Keeper.memories l.self.keeper) c.args.self.now.work l.self.work
    c.args.question.now l.question
    c.resolve_noted.new.trials l.going w (g.K.Keeper.contents c.carry_on.new.self.keeper) (g.K.Keeper.memories
    c.carry_on.new.self.keeper) c.carry_on.new.self.work
    c.carry_on.ensures.traces c.requires.turns.turns c.in-Waits.trying c.in-Waits.needed
    (subst (λ (z : Tried). HasCarriedOn {E = AllocError} c.args.rules.now c.args.store.now (g.K.Keeper.contents l.self.keeper)
    (g.K.Keeper.contents c.carry_on.new.self.keeper) l.self.work c.carry_on.new.self.work l.question.found.entries l.question.inst (Ok z)) c.in-Waits.is
    c.in_ok-value.ensures.tried)
    (g.K.Keeper.contents c.resolve_noted.new.self.keeper) (g.K.Keeper.memories c.resolve_noted.new.self.keeper)
    c.resolve_noted.new.self.work c.resolve_noted.new.question (subst (λ (z : Resolved). HasResolved {E =
    AllocError} c.args.rules.now c.args.store.now
    (g.K.Keeper.contents c.carry_on.new.self.keeper) (g.K.Keeper.contents c.resolve_noted.new.self.keeper)
    (g.K.Keeper.memories c.carry_on.new.self.keeper)
    (g.K.Keeper.memories c.resolve_noted.new.self.keeper) c.carry_on.new.self.work c.resolve_noted.new.self.work
    l.question c.resolve_noted.new.question c.in-Waits.needed (Ok z))
    c.in-Back.is c.in_ok-resolve_noted-in-Waits.ensures.resolved)

pub returns-in-Back : goal.returns-in-Back
returns-in-Back g c =
    let l = c.loop-value in
    let w = trying_with c.args.rules.now c.args.store.now (g.K.Keeper.contents
    c.args.self.now.keeper) (g.K.Keeper.contents l.self.keeper)
    (g.K.Keeper.memories c.args.self.now.keeper) (g.K.Keeper.memories l.self.keeper) c.args.self.now.work l.self.work
    c.args.question.now l.question
    l.trials c.resolve_noted.new.trials l.going l.invariant c.resolve_noted.ensures.frames
    c.resolve_noted.ensures.awaited
    c.resolve_noted.ensures.noted in
    record {
      turned = closed_last c.args.rules.now c.args.store.now (g.K.Keeper.contents c.args.self.now.keeper) (g.K.Keeper.contents l.self.keeper)
          (g.K.Keeper.memories c.args.self.now.keeper) (g.K.Keeper.memories l.self.keeper) c.args.self.now.work l.self.work c.args.question.now l.question
          c.resolve_noted.new.trials l.going w (g.K.Keeper.contents c.carry_on.new.self.keeper) (g.K.Keeper.memories
          c.carry_on.new.self.keeper) c.carry_on.new.self.work
          c.carry_on.ensures.traces c.requires.turns.turns c.in-Waits.trying c.in-Waits.needed
          (subst (λ (z : Tried). HasCarriedOn {E = AllocError} c.args.rules.now c.args.store.now (g.K.Keeper.contents l.self.keeper)
          (g.K.Keeper.contents c.carry_on.new.self.keeper) l.self.work c.carry_on.new.self.work l.question.found.entries l.question.inst (Ok z)) c.in-Waits.is
          c.in_ok-value.ensures.tried)
          (g.K.Keeper.contents c.resolve_noted.new.self.keeper) (g.K.Keeper.memories c.resolve_noted.new.self.keeper)
          c.resolve_noted.new.self.work c.resolve_noted.new.question (subst (λ (z : Resolved). HasResolved {E =
          AllocError} c.args.rules.now c.args.store.now
          (g.K.Keeper.contents c.carry_on.new.self.keeper) (g.K.Keeper.contents c.resolve_noted.new.self.keeper)
          (g.K.Keeper.memories c.carry_on.new.self.keeper)
          (g.K.Keeper.memories c.resolve_noted.new.self.keeper) c.carry_on.new.self.work c.resolve_noted.new.self.work
          l.question c.resolve_noted.new.question c.in-Waits.needed (Ok z))
          c.in-Back.is c.in_ok-resolve_noted-in-Waits.ensures.resolved)
          (g.K.Keeper.contents c.close.new.self.keeper) (g.K.Keeper.memories c.close.new.self.keeper)
          c.close.new.self.work c.close.new.question c.resolve_noted.new.trials c.close.result c.close.ensures;
      traces = puts_then (g.K.Keeper.memories c.args.self.now.keeper) (g.K.Keeper.memories
          c.resolve_noted.new.self.keeper) (g.K.Keeper.memories c.close.new.self.keeper) (puts_then
          (g.K.Keeper.memories c.args.self.now.keeper) (g.K.Keeper.memories c.carry_on.new.self.keeper)
          (g.K.Keeper.memories c.resolve_noted.new.self.keeper) (puts_then (g.K.Keeper.memories
          c.args.self.now.keeper) (g.K.Keeper.memories l.self.keeper) (g.K.Keeper.memories c.carry_on.new.self.keeper)
          l.invariant.gains.traces c.carry_on.ensures.traces) c.resolve_noted.ensures.resolved.tells.traces)
          c.close.ensures.gains.traces;
    }

pub returns-in-Open : goal.returns-in-Open
returns-in-Open g c =
    let l = c.loop-value in
    let w = trying_with c.args.rules.now c.args.store.now (g.K.Keeper.contents
    c.args.self.now.keeper) (g.K.Keeper.contents l.self.keeper)
    (g.K.Keeper.memories c.args.self.now.keeper) (g.K.Keeper.memories l.self.keeper) c.args.self.now.work l.self.work
    c.args.question.now l.question
    l.trials c.resolve_noted.new.trials l.going l.invariant c.resolve_noted.ensures.frames
    c.resolve_noted.ensures.awaited
    c.resolve_noted.ensures.noted in
    record {
      turned = deeper_from c.args.rules.now c.args.store.now (g.K.Keeper.contents c.args.self.now.keeper) (g.K.Keeper.contents l.self.keeper)
          (g.K.Keeper.memories c.args.self.now.keeper) (g.K.Keeper.memories l.self.keeper) c.args.self.now.work l.self.work c.args.question.now l.question
          c.resolve_noted.new.trials l.going w (g.K.Keeper.contents c.carry_on.new.self.keeper) (g.K.Keeper.memories
          c.carry_on.new.self.keeper) c.carry_on.new.self.work
          c.carry_on.ensures.traces c.requires.turns.turns c.in-Waits.trying c.in-Waits.needed
          (subst (λ (z : Tried). HasCarriedOn {E = AllocError} c.args.rules.now c.args.store.now (g.K.Keeper.contents l.self.keeper)
          (g.K.Keeper.contents c.carry_on.new.self.keeper) l.self.work c.carry_on.new.self.work l.question.found.entries l.question.inst (Ok z)) c.in-Waits.is
          c.in_ok-value.ensures.tried)
          (g.K.Keeper.contents c.resolve_noted.new.self.keeper) (g.K.Keeper.memories c.resolve_noted.new.self.keeper)
          c.resolve_noted.new.self.work c.resolve_noted.new.question (subst (λ (z : Resolved). HasResolved {E =
          AllocError} c.args.rules.now c.args.store.now
          (g.K.Keeper.contents c.carry_on.new.self.keeper) (g.K.Keeper.contents c.resolve_noted.new.self.keeper)
          (g.K.Keeper.memories c.carry_on.new.self.keeper)
          (g.K.Keeper.memories c.resolve_noted.new.self.keeper) c.carry_on.new.self.work c.resolve_noted.new.self.work
          l.question c.resolve_noted.new.question c.in-Waits.needed (Ok z))
          c.in-Open.is c.in_ok-resolve_noted-in-Waits.ensures.resolved)
          c.deepen_last.new.question c.deepen_last.new.trials c.deepen_last.result c.deepen_last.ensures.none c.deepen_last.ensures.deeper;
      traces = (puts_then (g.K.Keeper.memories c.args.self.now.keeper) (g.K.Keeper.memories
          c.carry_on.new.self.keeper) (g.K.Keeper.memories c.resolve_noted.new.self.keeper) (puts_then
          (g.K.Keeper.memories c.args.self.now.keeper) (g.K.Keeper.memories l.self.keeper) (g.K.Keeper.memories
          c.carry_on.new.self.keeper) l.invariant.gains.traces c.carry_on.ensures.traces)
          c.resolve_noted.ensures.resolved.tells.traces);
    }

pub returns-in_err-going : goal.returns-in_err-going
returns-in_err-going g c =
    let entries = g.K.Keeper.contents c.args.self.now.keeper in
    let turn = c.requires.turns.turns in
    let is = (err_from_is_err_and c.from_residual.result c.from_residual.ensures.1).1 in
    record {
      turned = broken_on c.args.rules.now c.args.store.now turn.answerable.basis entries entries c.args.self.now.work
          c.args.self.now.work c.args.question.now c.args.question.now c.trial_of.new.trials _ _ is (λ none. none)
          (gains_none c.args.rules.now c.args.store.now entries c.args.self.now.work c.args.self.now.few c.args.question.now
          turn.answerable.right turn.answerable.plain);
      traces = puts_same (g.K.Keeper.memories c.args.self.now.keeper);
    }

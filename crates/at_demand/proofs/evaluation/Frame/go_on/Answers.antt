use Rattle.std.proofs.Common.{◌≡◌, ℕ, None, sym, subst}
use Rattle.std.proofs.lemmas.Result.{err_from_is_err_and}
use Rattle.at_model.specs.Run.{Instance}
use Rattle.at_store.specs.Shown.{contents}
use Rattle.at_body.specs.Values.{value_view}
use Rattle.at_body.specs.Typed.{IsTypedStep, class_shown}
use Rattle.at_body.proofs.of_typing.TypedShown.{shown_typed}
use Rattle.at_body.specs.declared.trial.Step.{Step}
use Rattle.at_demand.specs.declared.evaluation.Recalled.{Recalled}
use Rattle.at_body.specs.declared.trial.Step.TheVariants as step
use Rattle.at_demand.specs.Known.{known_in, IsRecalled}
use Rattle.at_demand.specs.UnderWay.{HasStepped}
use Rattle.at_demand.specs.Covering.{HasPassedTo, Takes}
use Rattle.at_demand.specs.declared.evaluation.Demanded.{Demanded}
use Rattle.at_demand.specs.declared.evaluation.Frame.{Frame}
use Rattle.at_demand.specs.Only.{TakesOne, TakesOnly}
use Rattle.at_demand.proofs.Passing.{passed_on}
use Rattle.at_demand.proofs.OnlyLemmas.{needs_leads, takes_one}
use Rattle.at_demand.proofs.Truth.{resumed_step, open_end}
use Rattle.at_demand.proofs.TypingLemmas.{told_value}
use Rattle.at_demand.proofs.evaluation.Frame.go_on.Goals as goal

pub loop-step-preserved : goal.loop-step-preserved
loop-step-preserved g c =
    let rules = c.args.rules.now in
    let look = contents c.args.store.now in
    let known = known_in (g.K.Keeper.contents c.args.keeper.now) c.args.found.now.entries in
    let told = subst (λ (r : Recalled). IsRecalled known c.in-Need.needed r) c.in-Value.is c.in_ok-value-in-Need.ensures.recalled in
    record {
      typed = c.in_ok-step-in-Value.ensures.typed;
      kept = c.in_ok-value-in-Need.ensures.kept;
      stepped = λ i h.
          let before = c.loop-step.invariant.stepped i h in
          let waits = subst (λ (s : Step). HasStepped rules look i c.loop-step.self.trial s) c.in-Need.is before in
          resumed_step rules look i c.in-Need.needed c.loop-step.self.trial c.resume.new.self (value_view c.in-Value.value) c.in_ok-step-in-Value.step waits (c.requires.right c.in-Need.needed (value_view c.in-Value.value) told) c.in_ok-step-in-Value.ensures.found;
      passed = λ i h.
          let found = c.args.found.now.entries in
          let next : Frame = record { trial = c.resume.new.self; demanded = c.recall.new.self } in
          let takes = subst (λ (r : Recalled). Takes found c.loop-step.self.demanded c.recall.new.self c.in-Need.needed r) c.in-Value.is c.in_ok-value-in-Need.ensures.takes in
          let waits = subst (λ (s : Step). HasPassedTo rules look found i c.loop-step.self s) c.in-Need.is (c.loop-step.invariant.passed i h) in
          passed_on rules look found i c.in-Need.needed c.loop-step.self next (value_view c.in-Value.value) c.in_ok-step-in-Value.step waits takes.0 takes.1 (c.requires.right c.in-Need.needed (value_view c.in-Value.value) told) c.in_ok-step-in-Value.ensures.found;
      only = λ i own h takes.
          let found = c.args.found.now.entries in
          let waits = subst (λ (s : Step). HasStepped rules look i c.loop-step.self.trial s) c.in-Need.is (c.loop-step.invariant.stepped i h) in
          let one = subst (λ (r : Recalled). TakesOne found c.loop-step.self.demanded c.recall.new.self c.in-Need.needed r) c.in-Value.is c.in_ok-value-in-Need.ensures.one in
          takes_one rules look found i c.in-Need.needed c.loop-step.self.demanded c.recall.new.self (needs_leads rules look i c.in-Need.needed c.loop-step.self.trial own waits) one (c.loop-step.invariant.only i own h takes);
    }

pub resume-requires-clause-over : goal.resume-requires-clause-over
resume-requires-clause-over g c = shown_typed c.args.rules.now c.args.store.now c.requires.basis.idle c.requires.basis.formed c.requires.basis.sound

pub resume-requires-clause-takes : goal.resume-requires-clause-takes
resume-requires-clause-takes g c =
    let rules = c.args.rules.now in
    let s = c.args.store.now in
    let known = known_in (g.K.Keeper.contents c.args.keeper.now) c.args.found.now.entries in
    let told = subst (λ (r : Recalled). IsRecalled known c.in-Need.needed r) c.in-Value.is c.in_ok-value-in-Need.ensures.recalled in
    let waits = subst (λ (x : Step). IsTypedStep rules (class_shown s) x c.loop-step.self.trial) c.in-Need.is c.loop-step.invariant.typed in
    told_value rules c.requires.basis.formed c.requires.basis.circular.boolean s c.requires.basis.idle c.requires.basis.sound c.loop-step.self.trial c.in-Need.needed (value_view c.in-Value.value) waits (c.requires.right c.in-Need.needed (value_view c.in-Value.value) told)

pub returns-in-Unknown : goal.returns-in-Unknown
returns-in-Unknown g c =
    let rules = c.args.rules.now in
    let at = class_shown c.args.store.now in
    let look = contents c.args.store.now in
    let found = c.args.found.now.entries in
    let known = known_in (g.K.Keeper.contents c.args.keeper.now) found in
    let recalls = c.in_ok-value-in-Need.ensures in
    let told = subst (λ (r : Recalled). IsRecalled known c.in-Need.needed r) c.in-Unknown.is recalls.recalled in
    let old = c.loop-step.self in
    let same = subst (λ (r : Recalled). TakesOne found old.demanded c.recall.new.self c.in-Need.needed r) c.in-Unknown.is recalls.one in
    let P : Demanded → Instance ℕ → Instance ℕ → Type 0 = λ d i j. HasPassedTo rules look found i (record { trial = old.trial; demanded = d }) (step.Need j) in
    record {
      kept = recalls.kept;
      stepped = λ i h. subst (λ j. HasStepped rules look i old.trial (step.Need j)) (sym told.0)
          (subst (λ (s : Step). HasStepped rules look i old.trial s) c.in-Need.is (c.loop-step.invariant.stepped i h));
      passed = λ i h.
          let waits = subst (λ (s : Step). HasPassedTo rules look found i old s) c.in-Need.is (c.loop-step.invariant.passed i h) in
          subst (λ d. P d i c.in-Unknown.needed) (sym same) (subst (λ j. P old.demanded i j) (sym told.0) waits);
      only = λ i own h takes. subst (TakesOnly rules look found i) (sym same) (c.loop-step.invariant.only i own h takes);
      typed = subst (λ j. IsTypedStep rules at (step.Need j) old.trial) (sym told.0) (subst (λ (x : Step). IsTypedStep rules at x old.trial) c.in-Need.is c.loop-step.invariant.typed);
      unknown = subst (λ j. known j ≡ None) (sym told.0) told.1;
    }

pub returns-in_default : goal.returns-in_default
returns-in_default g c =
    record {
      kept = c.loop-step.invariant.kept;
      stepped = c.loop-step.invariant.stepped;
      passed = c.loop-step.invariant.passed;
      only = c.loop-step.invariant.only;
      typed = c.loop-step.invariant.typed;
      unknown = open_end (known_in (g.K.Keeper.contents c.args.keeper.now) c.args.found.now.entries) c.loop-step.step c.in_default.not-Need;
    }

pub loop-step-init : goal.loop-step-init
loop-step-init g c = record { kept = c.requires.kept; stepped = λ i h. h; passed = λ i h. h; only = λ i own h takes. takes; typed = c.requires.typed }

pub returns-in_err-value-in-Need : goal.returns-in_err-value-in-Need
returns-in_err-value-in-Need g c =
    let is = (err_from_is_err_and c.from_residual.result c.from_residual.ensures.1).1 in
    rw is tt

pub returns-in_err-step-in-Value : goal.returns-in_err-step-in-Value
returns-in_err-step-in-Value g c =
    let is = (err_from_is_err_and c.from_residual-in_err-step-in-Value.result c.from_residual-in_err-step-in-Value.ensures.1).1 in
    rw is tt

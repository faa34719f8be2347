use Rattle.std.proofs.Common.{◌≡◌, ℕ, None, inl, sym, subst}
use Rattle.std.proofs.lemmas.Result.{err_from_is_err_and}
use Rattle.at_model.specs.Run.{Instance}
use Rattle.at_model.specs.of_fixpoints.Resting.{goes, stays}
use Rattle.at_store.specs.Shown.{contents}
use Rattle.at_body.specs.Values.{value_view}
use Rattle.at_body.specs.Typed.{class_shown}
use Rattle.at_body.specs.TypedForms.{IsTypedProgress}
use Rattle.at_body.proofs.of_typing.TypedShown.{shown_typed}
use Rattle.at_body.specs.declared.forming.Progress.{Progress}
use Rattle.at_body.specs.declared.forming.Progress.TheVariants as progress
use Rattle.at_demand.specs.declared.evaluation.Demanded.{Demanded}
use Rattle.at_demand.specs.declared.evaluation.Recalled.{Recalled}
use Rattle.at_demand.specs.declared.formation.Formation.{Formation}
use Rattle.at_demand.specs.Covering.{Takes}
use Rattle.at_demand.specs.Forming.{HasPassedToForm}
use Rattle.at_demand.specs.Known.{known_in, IsRecalled}
use Rattle.at_demand.specs.Only.{TakesOne, TakesOnly}
use Rattle.at_demand.proofs.OnlyLemmas.{takes_one}
use Rattle.at_demand.proofs.TypedKnown.{known_typed}
use Rattle.at_demand.proofs.of_levels.FormingOn.{form_at_end, form_comes, formed_on}
use Rattle.at_demand.proofs.formation.Formation.go_on.Goals as goal

pub loop-progress-preserved : goal.loop-progress-preserved
loop-progress-preserved g c =
    let rules = c.args.rules.now in
    let look = contents c.args.store.now in
    let found = c.args.found.now.entries in
    let needed = c.in-Need.needed in
    let old = c.loop-progress.self in
    let value = value_view c.in-Value.value in
    let known = known_in (g.K.Keeper.contents c.args.keeper.now) found in
    let told = subst (λ (r : Recalled). IsRecalled known needed r) c.in-Value.is c.in_ok-value-in-Need.ensures.recalled in
    let has = c.requires.right needed value told in
    record {
      typed = c.in_ok-progress-in-Value.ensures.typed;
      kept = c.in_ok-value-in-Need.ensures.kept;
      passed = λ i h.
          let next : Formation = record { forming = c.resume.new.self; demanded = c.recall.new.self } in
          let takes = subst (λ (r : Recalled). Takes found old.demanded c.recall.new.self needed r) c.in-Value.is c.in_ok-value-in-Need.ensures.takes in
          let waits = subst (λ (p : Progress). HasPassedToForm rules look found i old p) c.in-Need.is (c.loop-progress.invariant.passed i h) in
          formed_on rules look found i needed old next value c.in_ok-progress-in-Value.progress waits takes.0 takes.1 has c.in_ok-progress-in-Value.ensures.found;
      only = λ i h takes.
          let waits = subst (λ (p : Progress). HasPassedToForm rules look found i old p) c.in-Need.is (c.loop-progress.invariant.passed i h) in
          let one = subst (λ (r : Recalled). TakesOne found old.demanded c.recall.new.self needed r) c.in-Value.is c.in_ok-value-in-Need.ensures.one in
          takes_one rules look found i needed old.demanded c.recall.new.self (goes i needed needed (inl (form_comes rules look found i needed old waits)) (stays needed)) one (c.loop-progress.invariant.only i h takes);
    }

pub resume-requires-clause-over : goal.resume-requires-clause-over
resume-requires-clause-over g c = shown_typed c.args.rules.now c.args.store.now c.requires.basis.idle c.requires.basis.formed c.requires.basis.sound

pub resume-requires-clause-takes : goal.resume-requires-clause-takes
resume-requires-clause-takes g c =
    let rules = c.args.rules.now in
    let s = c.args.store.now in
    let basis = c.requires.basis in
    let value = value_view c.in-Value.value in
    let known = known_in (g.K.Keeper.contents c.args.keeper.now) c.args.found.now.entries in
    let told = subst (λ (r : Recalled). IsRecalled known c.in-Need.needed r) c.in-Value.is c.in_ok-value-in-Need.ensures.recalled in
    let (u, waits, awaits) = subst (λ (p : Progress). IsTypedProgress rules (class_shown s) (contents s) p c.loop-progress.self.forming) c.in-Need.is c.loop-progress.invariant.typed in (
      u,
      c.in-Need.needed,
      waits,
      awaits,
      known_typed rules basis.formed basis.circular.boolean s basis.idle basis.sound c.in-Need.needed value awaits.waits.instance (c.requires.right c.in-Need.needed value told),
    )

pub returns-in-Unknown : goal.returns-in-Unknown
returns-in-Unknown g c =
    let rules = c.args.rules.now in
    let at = class_shown c.args.store.now in
    let look = contents c.args.store.now in
    let found = c.args.found.now.entries in
    let known = known_in (g.K.Keeper.contents c.args.keeper.now) found in
    let recalls = c.in_ok-value-in-Need.ensures in
    let told = subst (λ (r : Recalled). IsRecalled known c.in-Need.needed r) c.in-Unknown.is recalls.recalled in
    let old = c.loop-progress.self in
    let same = subst (λ (r : Recalled). TakesOne found old.demanded c.recall.new.self c.in-Need.needed r) c.in-Unknown.is recalls.one in
    let P : Demanded → Instance ℕ → Instance ℕ → Type 0 = λ d i j. HasPassedToForm rules look found i (record { forming = old.forming; demanded = d }) (progress.Need j) in
    record {
      kept = recalls.kept;
      passed = λ i h.
          let waits = subst (λ (p : Progress). HasPassedToForm rules look found i old p) c.in-Need.is (c.loop-progress.invariant.passed i h) in
          subst (λ d. P d i c.in-Unknown.needed) (sym same) (subst (λ j. P old.demanded i j) (sym told.0) waits);
      only = λ i h takes. subst (TakesOnly rules look found i) (sym same) (c.loop-progress.invariant.only i h takes);
      typed = subst (λ j. IsTypedProgress rules at look (progress.Need j) old.forming) (sym told.0)
          (subst (λ (p : Progress). IsTypedProgress rules at look p old.forming) c.in-Need.is c.loop-progress.invariant.typed);
      unknown = subst (λ j. known j ≡ None) (sym told.0) told.1;
    }

pub returns-in_default : goal.returns-in_default
returns-in_default g c =
    let i = c.loop-progress.invariant in
    record {
      kept = i.kept;
      passed = i.passed;
      only = i.only;
      typed = i.typed;
      unknown = form_at_end (g.K.Keeper.contents c.args.keeper.now) c.args.found.now.entries c.loop-progress.progress c.in_default.not-Need;
    }

pub loop-progress-init : goal.loop-progress-init
loop-progress-init g c = record { kept = c.requires.kept; passed = λ i h. h; only = λ i h takes. takes; typed = c.requires.typed }

pub returns-in_err-value-in-Need : goal.returns-in_err-value-in-Need
returns-in_err-value-in-Need g c =
    let is = (err_from_is_err_and c.from_residual.result c.from_residual.ensures.1).1 in
    rw is tt

pub returns-in_err-progress-in-Value : goal.returns-in_err-progress-in-Value
returns-in_err-progress-in-Value g c =
    let is = (err_from_is_err_and c.from_residual-in_err-progress-in-Value.result c.from_residual-in_err-progress-in-Value.ensures.1).1 in
    rw is tt

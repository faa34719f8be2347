use Rattle.std.proofs.Common.{Option, Ok, subst}
use Rattle.std.specs.Prelude.{IfSome}
use Rattle.std.proofs.lemmas.Result.{err_from_is_err_and}
use Rattle.at_store.specs.Shown.{contents}
use Rattle.at_search.specs.declared.ended.Fault.{Fault}
use Rattle.at_demand.specs.declared.demand.searching.Resolved.TheVariants as resolved
use Rattle.at_demand.specs.Searches.{WasTold}
use Rattle.at_demand.proofs.of_levels.Resolving.{nothing_resolved}
use Rattle.at_demand.proofs.of_steps.Noting.{noted_after, noted_holds, told_ended}
use Rattle.at_demand.proofs.demand.Demand.resolve_noted.Goals as goal

pub returns-in_err-before-clause-resolved : goal.returns-in_err-before-clause-resolved
returns-in_err-before-clause-resolved g c =
    let m = c.args.self.now in
    let is = (err_from_is_err_and c.from_residual.result c.from_residual.ensures.1).1 in
    nothing_resolved c.args.rules.now c.args.store.now (g.K.Keeper.contents m.keeper)
    (g.K.Keeper.memories m.keeper) m.work
    c.args.question.now c.requires.can m.few c.args.inst.now _ (rw is tt) (rw is tt)

pub returns-in-Some-clause-resolved : goal.returns-in-Some-clause-resolved
returns-in-Some-clause-resolved g c =
    let m = c.args.self.now in
    let told : WasTold c.args.question.now c.args.trials.now c.args.inst.now c.in-Some.fault =
    subst (λ (o : Option Fault). IfSome o (WasTold c.args.question.now c.args.trials.now c.args.inst.now))
    c.in-Some.is c.in_ok-before.ensures in
    nothing_resolved c.args.rules.now c.args.store.now (g.K.Keeper.contents m.keeper)
    (g.K.Keeper.memories m.keeper) m.work
    c.args.question.now c.requires.can m.few c.args.inst.now (Ok (resolved.Spoilt c.in-Some.fault)) (
      noted_holds c.args.rules.now (contents c.args.store.now) c.args.trials.now.noted.entries c.args.inst.now
          c.in-Some.fault c.requires.noted told.0,
      told.1,
    )
    (told_ended c.args.question.now c.args.inst.now told.1)

pub returns-clause-noted : goal.returns-clause-noted
returns-clause-noted g c =
    noted_after c.args.rules.now c.args.store.now _ _ _ _ _ _ c.args.question.now
    c.resolve-told.new.question c.args.inst.now
    c.resolve-told.result c.resolve-told.ensures c.args.trials.now c.note_told.new.trials c.requires.noted
    c.note_told.ensures

pub returns-clause-resolved : goal.returns-clause-resolved
returns-clause-resolved g c = c.resolve-told.ensures

pub returns-clause-frames : goal.returns-clause-frames
returns-clause-frames g c = c.note_told.ensures.frames

pub returns-clause-awaited : goal.returns-clause-awaited
returns-clause-awaited g c = c.note_told.ensures.awaited

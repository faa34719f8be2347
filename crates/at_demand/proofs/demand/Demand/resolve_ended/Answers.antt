use Rattle.std.proofs.Common.{sym, ◌∙◌, Ok, inr, refl}
use Rattle.std.proofs.lemmas.Result.{err_from_is_err_and}
use Rattle.std.specs.Map.{keys_of}
use Rattle.at_demand.specs.declared.demand.searching.Resolved.TheVariants as resolved
use Rattle.at_demand.specs.Levels.{known_to}
use Rattle.at_evaluate.proofs.Entered.{none_entered}
use Rattle.at_demand.proofs.of_levels.Resolving.{closure_solvable, failed_resolved, nothing_resolved, solved_resolved, spoilt_then}
use Rattle.at_demand.proofs.demand.Demand.resolve_ended.Goals as goal

pub solve_and_mark-requires : goal.solve_and_mark-requires
solve_and_mark-requires g c =
    let rules = c.args.rules.now in
    let s = c.args.store.now in
    let m = c.args.self.now in
    let old = c.args.question.now in
    let i = c.args.inst.now in
    let before = g.K.Keeper.contents m.keeper in
    let set = keys_of c.in-Some.seen.entries in
    let closure = rw c.in-Some.is at c.in_ok-seen.ensures.some in
    closure_solvable rules s before old set i c.requires.can closure

pub returns-in_err-solve_and_mark : goal.returns-in_err-solve_and_mark
returns-in_err-solve_and_mark g c =
    let rules = c.args.rules.now in
    let s = c.args.store.now in
    let m = c.args.self.now in
    let old = c.args.question.now in
    let i = c.args.inst.now in
    let before = g.K.Keeper.contents m.keeper in
    let set = keys_of c.in-Some.seen.entries in
    let closure = rw c.in-Some.is at c.in_ok-seen.ensures.some in
    let n = c.solve_and_mark.new.self in
    let new = c.solve_and_mark.new.question in
    let after = g.K.Keeper.contents n.keeper in
    let former = g.K.Keeper.memories m.keeper in
    let latter = g.K.Keeper.memories n.keeper in
    let failed = c.from_residual-in_err-solve_and_mark in
    failed_resolved rules s before old set i c.requires.can closure after former latter m.work n.work new c.requires.ended c.solve_and_mark.result
    c.solve_and_mark.ensures failed.result _ ((err_from_is_err_and failed.result failed.ensures.1).1)

pub returns-then-is_known : goal.returns-then-is_known
returns-then-is_known g c =
    let rules = c.args.rules.now in
    let s = c.args.store.now in
    let m = c.args.self.now in
    let old = c.args.question.now in
    let i = c.args.inst.now in
    let before = g.K.Keeper.contents m.keeper in
    let set = keys_of c.in-Some.seen.entries in
    let closure = rw c.in-Some.is at c.in_ok-seen.ensures.some in
    let n = c.solve_and_mark.new.self in
    let new = c.solve_and_mark.new.question in
    let after = g.K.Keeper.contents n.keeper in
    let former = g.K.Keeper.memories m.keeper in
    let latter = g.K.Keeper.memories n.keeper in
    solved_resolved rules s before old set i c.requires.can closure after former latter m.work n.work new c.requires.ended c.in_ok-solve_and_mark.field-0
    c.in_ok-solve_and_mark.ensures (Ok resolved.Known) (sym c.is_known.ensures ∙ c.if-is_known.true)

pub returns : goal.returns
returns g c =
    let rules = c.args.rules.now in
    let s = c.args.store.now in
    let m = c.args.self.now in
    let old = c.args.question.now in
    let i = c.args.inst.now in
    let before = g.K.Keeper.contents m.keeper in
    let set = keys_of c.in-Some.seen.entries in
    let closure = rw c.in-Some.is at c.in_ok-seen.ensures.some in
    let n = c.solve_and_mark.new.self in
    let new = c.solve_and_mark.new.question in
    let after = g.K.Keeper.contents n.keeper in
    let former = g.K.Keeper.memories m.keeper in
    let latter = g.K.Keeper.memories n.keeper in
    spoilt_then rules s before old set i c.requires.can closure after former latter m.work n.work new c.requires.ended c.in_ok-solve_and_mark.field-0
    c.in_ok-solve_and_mark.ensures (none_entered (known_to after new i) c.is_known.result c.is_known.ensures c.if-is_known.false) c.spoilt_by.result
    c.spoilt_by.ensures

pub returns-in_err-seen : goal.returns-in_err-seen
returns-in_err-seen g c =
    let m = c.args.self.now in
    let is = (err_from_is_err_and c.from_residual.result c.from_residual.ensures.1).1 in
    nothing_resolved c.args.rules.now c.args.store.now (g.K.Keeper.contents m.keeper) (g.K.Keeper.memories m.keeper) m.work
    c.args.question.now c.requires.can m.few c.args.inst.now c.from_residual.result (rw is tt) (rw is tt)

pub returns-in_default : goal.returns-in_default
returns-in_default g c =
    let m = c.args.self.now in
    let out = rw c.in_default.is at c.in_ok-seen.ensures.none in
    nothing_resolved c.args.rules.now c.args.store.now (g.K.Keeper.contents m.keeper) (g.K.Keeper.memories m.keeper) m.work
    c.args.question.now c.requires.can m.few c.args.inst.now (Ok resolved.Back)
    (inr (c.requires.ended, c.requires.unmarked, out), refl) tt

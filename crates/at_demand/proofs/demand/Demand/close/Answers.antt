use Rattle.std.proofs.Common.{Ok}
use Rattle.std.proofs.lemmas.Result.{err_from_is_err_and}
use Rattle.at_demand.proofs.of_levels.ClosedLevels.{begins_closing, close_solvable, closed_plainly, closed_so, closes_less, closes_on, closing_failed, is_not_plain, is_plain_so, risen_alone, risen_none, risen_some}
use Rattle.at_demand.proofs.demand.Demand.close.Goals as goal

pub returns-then-is_plain : goal.returns-then-is_plain
returns-then-is_plain g c =
    let m = c.args.self.now in
    closed_plainly c.args.rules.now c.args.store.now (g.K.Keeper.contents m.keeper) (g.K.Keeper.memories m.keeper) m.work c.args.question.now
    c.args.at c.requires m.few (is_plain_so c.args.question.now c.is_plain.result c.is_plain.ensures c.if-is_plain.true)

pub loop-at-init : goal.loop-at-init
loop-at-init g c =
    let m = c.args.self.now in
    begins_closing c.args.rules.now c.args.store.now (g.K.Keeper.contents m.keeper) (g.K.Keeper.memories m.keeper) m.work c.args.question.now
    c.requires m.few

pub solve_level-requires : goal.solve_level-requires
solve_level-requires g c =
    let l = c.loop-at in
    let h = l.invariant in
    close_solvable c.args.rules.now c.args.store.now (g.K.Keeper.contents l.self.keeper) l.question h.can

pub loop-at-preserved : goal.loop-at-preserved
loop-at-preserved g c =
    let l = c.loop-at in
    let (i, risen) = (risen_some c.solve_level.new.question c.rise.new.self c.rise.result c.is_none.result c.rise.ensures c.is_none.ensures c.if-is_none.false) in
    closes_on c.args.rules.now c.args.store.now (g.K.Keeper.contents c.args.self.now.keeper) (g.K.Keeper.contents l.self.keeper)
    (g.K.Keeper.contents c.solve_level.new.self.keeper) (g.K.Keeper.memories c.args.self.now.keeper) (g.K.Keeper.memories l.self.keeper)
    (g.K.Keeper.memories c.solve_level.new.self.keeper) c.args.self.now.work l.self.work c.solve_level.new.self.work c.args.question.now l.question
    c.solve_level.new.question l.invariant (Ok c.in_ok-solve_level.field-0) c.in_ok-solve_level.ensures
    c.in_ok-solve_level.ensures.told (λ u. u) c.rise.new.self i risen

pub loop-at-smaller : goal.loop-at-smaller
loop-at-smaller g c =
    let l = c.loop-at in
    let (i, risen) = (risen_some c.solve_level.new.question c.rise.new.self c.rise.result c.is_none.result c.rise.ensures c.is_none.ensures c.if-is_none.false) in
    closes_less c.args.rules.now c.args.store.now (g.K.Keeper.contents c.args.self.now.keeper) (g.K.Keeper.contents l.self.keeper)
    (g.K.Keeper.contents c.solve_level.new.self.keeper) (g.K.Keeper.memories c.args.self.now.keeper) (g.K.Keeper.memories l.self.keeper)
    (g.K.Keeper.memories c.solve_level.new.self.keeper) c.args.self.now.work l.self.work c.solve_level.new.self.work c.args.question.now l.question
    c.solve_level.new.question l.invariant c.solve_level.result c.solve_level.ensures c.rise.new.self i risen

pub returns-then-is_none : goal.returns-then-is_none
returns-then-is_none g c =
    let l = c.loop-at in
    closed_so c.args.rules.now c.args.store.now (g.K.Keeper.contents c.args.self.now.keeper) (g.K.Keeper.contents l.self.keeper)
    (g.K.Keeper.contents c.solve_level.new.self.keeper) (g.K.Keeper.memories c.args.self.now.keeper) (g.K.Keeper.memories l.self.keeper)
    (g.K.Keeper.memories c.solve_level.new.self.keeper) c.args.self.now.work l.self.work c.solve_level.new.self.work c.args.question.now l.question
    c.solve_level.new.question l.invariant (Ok c.in_ok-solve_level.field-0) c.in_ok-solve_level.ensures
    c.in_ok-solve_level.ensures.told (λ u. u)
    (risen_alone c.solve_level.new.question c.rise.new.self c.rise.result c.is_none.result c.rise.ensures
    c.is_none.ensures c.if-is_none.true) c.rise.new.self
    (risen_none c.solve_level.new.question c.rise.new.self c.rise.result c.is_none.result c.rise.ensures c.is_none.ensures c.if-is_none.true) c.args.at
    (is_not_plain c.args.question.now c.is_plain.result c.is_plain.ensures c.if-is_plain.false)

pub returns-in_err-solve_level : goal.returns-in_err-solve_level
returns-in_err-solve_level g c =
    let l = c.loop-at in
    closing_failed c.args.rules.now c.args.store.now (g.K.Keeper.contents c.args.self.now.keeper) (g.K.Keeper.contents l.self.keeper)
    (g.K.Keeper.contents c.solve_level.new.self.keeper) (g.K.Keeper.memories c.args.self.now.keeper) (g.K.Keeper.memories l.self.keeper)
    (g.K.Keeper.memories c.solve_level.new.self.keeper) c.args.self.now.work l.self.work c.solve_level.new.self.work c.args.question.now l.question
    c.solve_level.new.question l.invariant c.solve_level.result c.solve_level.ensures c.args.at (is_not_plain c.args.question.now c.is_plain.result c.is_plain.ensures c.if-is_plain.false) c.from_residual.result _
    ((err_from_is_err_and c.from_residual.result c.from_residual.ensures.1).1)

use Rattle.std.proofs.lemmas.Result.{err_from_is_err_and}
use Rattle.at_demand.proofs.of_levels.ClosedLevels.{is_not_plain, is_plain_so}
use Rattle.at_demand.proofs.of_levels.SpoiltLast.{can_along, spoilt_along, spoilt_failed, spoilt_plainly, unseen_inst}
use Rattle.at_demand.proofs.demand.Demand.spoil.Goals as goal

pub returns-then-is_plain : goal.returns-then-is_plain
returns-then-is_plain g c =
    let m = c.args.self.now in
    spoilt_plainly c.args.rules.now c.args.store.now (g.K.Keeper.contents m.keeper) (g.K.Keeper.memories m.keeper) m.work c.args.question.now
    c.args.trials.now c.args.fault c.requires m.few
    (is_plain_so c.args.question.now c.is_plain.result c.is_plain.ensures c.if-is_plain.true) c.args.trials.now c.of_fault.result c.of_fault.ensures

pub end-requires : goal.end-requires
end-requires g c =
    let can = c.requires in
    let turns = can.turns in
    let turn = turns.turns in
    unseen_inst c.args.rules.now c.args.store.now (g.K.Keeper.contents c.args.self.now.keeper) c.args.question.now
    (record { right = turn.answerable.right; whole = turn.wholes }) turn.standing

pub returns-in_err-end : goal.returns-in_err-end
returns-in_err-end g c =
    let m = c.args.self.now in
    spoilt_failed c.args.rules.now c.args.store.now (g.K.Keeper.contents m.keeper) (g.K.Keeper.memories m.keeper) m.work c.args.question.now
    c.args.trials.now c.args.fault c.requires m.few
    (is_not_plain c.args.question.now c.is_plain.result c.is_plain.ensures c.if-is_plain.false) c.end.new.self
    c.end.ensures.found c.args.trials.now c.from_residual.result _ ((err_from_is_err_and c.from_residual.result c.from_residual.ensures.1).1)

pub go_along-requires : goal.go_along-requires
go_along-requires g c =
    let m = c.args.self.now in
    can_along c.args.rules.now c.args.store.now (g.K.Keeper.contents m.keeper) (g.K.Keeper.memories m.keeper) m.work c.args.question.now
    c.args.trials.now c.args.fault c.requires m.few
    (is_not_plain c.args.question.now c.is_plain.result c.is_plain.ensures c.if-is_plain.false) c.end.new.self c.in_ok-end.ensures.ended

pub returns : goal.returns
returns g c =
    let m = c.args.self.now in
    let n = c.go_along.new.self in
    spoilt_along c.args.rules.now c.args.store.now (g.K.Keeper.contents m.keeper) (g.K.Keeper.memories m.keeper) m.work c.args.question.now
    c.args.trials.now c.args.fault c.requires m.few
    (is_not_plain c.args.question.now c.is_plain.result c.is_plain.ensures c.if-is_plain.false) c.end.new.self c.in_ok-end.ensures.ended
    (g.K.Keeper.contents n.keeper) (g.K.Keeper.memories n.keeper) n.work c.go_along.new.question c.go_along.new.trials c.go_along.result c.go_along.ensures

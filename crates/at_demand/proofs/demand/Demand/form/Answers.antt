use Rattle.std.proofs.lemmas.Result.{err_from_is_err_and}
use Rattle.at_demand.proofs.of_steps.FormedLast.{form_along, form_failed, has_formed, unseen_last}
use Rattle.at_demand.proofs.demand.Demand.form.Goals as goal

pub end-requires : goal.end-requires
end-requires g c =
    let m = c.args.self.now in
    unseen_last c.args.rules.now c.args.store.now (g.K.Keeper.contents m.keeper) (g.K.Keeper.memories m.keeper) m.work c.args.question.now
    c.args.trials.now c.args.formed c.requires.can c.requires.none m.few

pub returns-in_err-end : goal.returns-in_err-end
returns-in_err-end g c =
    let m = c.args.self.now in
    form_failed c.args.rules.now c.args.store.now (g.K.Keeper.contents m.keeper) (g.K.Keeper.memories m.keeper) m.work c.args.question.now
    c.args.trials.now c.args.formed c.requires.can c.requires.none m.few c.end.new.self
    c.end.ensures.found c.args.trials.now c.from_residual.result _ ((err_from_is_err_and c.from_residual.result c.from_residual.ensures.1).1)

pub go_along-requires : goal.go_along-requires
go_along-requires g c =
    let m = c.args.self.now in
    form_along c.args.rules.now c.args.store.now (g.K.Keeper.contents m.keeper) (g.K.Keeper.memories m.keeper) m.work c.args.question.now
    c.args.trials.now c.args.formed c.requires.can c.requires.none m.few c.end.new.self c.in_ok-end.ensures.ended

pub returns : goal.returns
returns g c =
    let m = c.args.self.now in
    let n = c.go_along.new.self in
    has_formed c.args.rules.now c.args.store.now (g.K.Keeper.contents m.keeper) (g.K.Keeper.memories m.keeper) m.work c.args.question.now
    c.args.trials.now c.args.formed c.requires.can c.requires.none m.few c.end.new.self c.in_ok-end.ensures.ended
    (g.K.Keeper.contents n.keeper) (g.K.Keeper.memories n.keeper) n.work c.go_along.new.question c.go_along.new.trials c.go_along.result c.go_along.ensures

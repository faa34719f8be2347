use Rattle.std.proofs.lemmas.Result.{err_from_is_err_and}
use Rattle.at_demand.proofs.of_searches.SearchedTo.{begins_on, ends_on, fails_on, less_left, none_left, some_left, steps_on}
use Rattle.at_demand.proofs.demand.Demand.search.Goals as goal

pub loop-searched-init : goal.loop-searched-init
loop-searched-init g c =
    let m = c.args.self.now in
    begins_on c.args.rules.now c.args.store.now (g.K.Keeper.contents m.keeper) (g.K.Keeper.memories m.keeper) m.work c.args.question.now
    c.requires m.few

pub search_on-requires : goal.search_on-requires
search_on-requires g c = let l = c.loop-searched in let h = l.invariant in let on = h.on in on.can

pub loop-searched-preserved : goal.loop-searched-preserved
loop-searched-preserved g c =
    let l = c.loop-searched in
    steps_on c.args.rules.now c.args.store.now (g.K.Keeper.contents c.args.self.now.keeper) (g.K.Keeper.contents l.self.keeper)
    (g.K.Keeper.contents c.search_on.new.self.keeper) (g.K.Keeper.memories c.args.self.now.keeper) (g.K.Keeper.memories l.self.keeper)
    (g.K.Keeper.memories c.search_on.new.self.keeper) c.args.self.now.work l.self.work c.search_on.new.self.work c.args.question.now l.question
    c.search_on.new.question l.invariant
    (none_left c.args.rules.now c.args.store.now (g.K.Keeper.contents l.self.keeper) (g.K.Keeper.contents c.search_on.new.self.keeper)
    (g.K.Keeper.memories l.self.keeper) (g.K.Keeper.memories c.search_on.new.self.keeper) l.self.work c.search_on.new.self.work l.question
    c.search_on.new.question
    c.in_ok-searched.field-0 c.in_default.is c.in_ok-searched.ensures)

pub loop-searched-smaller : goal.loop-searched-smaller
loop-searched-smaller g c =
    let l = c.loop-searched in
    less_left c.args.rules.now c.args.store.now (g.K.Keeper.contents l.self.keeper) (g.K.Keeper.contents c.search_on.new.self.keeper)
    (g.K.Keeper.memories l.self.keeper) (g.K.Keeper.memories c.search_on.new.self.keeper) l.self.work c.search_on.new.self.work l.question
    c.search_on.new.question
    (none_left c.args.rules.now c.args.store.now (g.K.Keeper.contents l.self.keeper) (g.K.Keeper.contents c.search_on.new.self.keeper)
    (g.K.Keeper.memories l.self.keeper) (g.K.Keeper.memories c.search_on.new.self.keeper) l.self.work c.search_on.new.self.work l.question
    c.search_on.new.question
    c.in_ok-searched.field-0 c.in_default.is c.in_ok-searched.ensures)

pub returns-in-Some : goal.returns-in-Some
returns-in-Some g c =
    let l = c.loop-searched in
    ends_on c.args.rules.now c.args.store.now (g.K.Keeper.contents c.args.self.now.keeper) (g.K.Keeper.contents l.self.keeper)
    (g.K.Keeper.contents c.search_on.new.self.keeper) (g.K.Keeper.memories c.args.self.now.keeper) (g.K.Keeper.memories l.self.keeper)
    (g.K.Keeper.memories c.search_on.new.self.keeper) c.args.self.now.work l.self.work c.search_on.new.self.work c.args.question.now l.question
    c.search_on.new.question l.invariant c.in-Some.searched
    (some_left c.args.rules.now c.args.store.now (g.K.Keeper.contents l.self.keeper) (g.K.Keeper.contents c.search_on.new.self.keeper)
    (g.K.Keeper.memories l.self.keeper) (g.K.Keeper.memories c.search_on.new.self.keeper) l.self.work c.search_on.new.self.work l.question
    c.search_on.new.question
    c.in_ok-searched.field-0 c.in-Some.searched c.in-Some.is c.in_ok-searched.ensures)

pub returns-in_err-searched : goal.returns-in_err-searched
returns-in_err-searched g c =
    let l = c.loop-searched in
    fails_on c.args.rules.now c.args.store.now (g.K.Keeper.contents c.args.self.now.keeper) (g.K.Keeper.contents l.self.keeper)
    (g.K.Keeper.contents c.search_on.new.self.keeper) (g.K.Keeper.memories c.args.self.now.keeper) (g.K.Keeper.memories l.self.keeper)
    (g.K.Keeper.memories c.search_on.new.self.keeper) c.args.self.now.work l.self.work c.search_on.new.self.work c.args.question.now l.question
    c.search_on.new.question l.invariant c.search_on.result c.search_on.ensures c.from_residual.result _
    ((err_from_is_err_and c.from_residual.result c.from_residual.ensures.1).1)

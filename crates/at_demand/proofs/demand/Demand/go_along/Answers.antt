use Rattle.std.proofs.Common.{◌<◌, length, subst, Ok}
use Rattle.std.proofs.lemmas.Result.{err_from_is_err_and}
use Rattle.std.specs.declared.alloc.AllocError.{AllocError}
use Rattle.at_demand.specs.declared.demand.searching.Left.{Left}
use Rattle.at_demand.specs.declared.demand.searching.Searched.{Searched}
use Rattle.at_demand.specs.Searches.{HasLeft, HasSearched}
use Rattle.at_demand.proofs.of_levels.AlongLevels.{along_back, along_failed, along_next, along_over, begins_along, close_back, left_down, left_fewer, left_so, left_wanting}
use Rattle.at_demand.proofs.demand.Demand.go_along.Goals as goal

pub loop-at-init : goal.loop-at-init
loop-at-init g c =
    let m = c.args.self.now in
    begins_along c.args.rules.now c.args.store.now (g.K.Keeper.contents m.keeper) (g.K.Keeper.memories m.keeper) m.work c.args.question.now
    c.args.trials.now c.requires m.few

pub search-requires : goal.search-requires
search-requires g c = let l = c.loop-at in let h = l.invariant in let can = h.can in can.search

pub returns-in-Next : goal.returns-in-Next
returns-in-Next g c =
    let l = c.loop-at in
    along_next c.args.rules.now c.args.store.now (g.K.Keeper.contents c.args.self.now.keeper) (g.K.Keeper.contents l.self.keeper)
    (g.K.Keeper.contents c.search.new.self.keeper) (g.K.Keeper.memories c.args.self.now.keeper) (g.K.Keeper.memories l.self.keeper)
    (g.K.Keeper.memories c.search.new.self.keeper) c.args.self.now.work l.self.work c.search.new.self.work c.args.question.now l.question
    c.search.new.question l.trials l.invariant
    (subst (λ (z : Searched). HasSearched {E = AllocError} c.args.rules.now c.args.store.now (g.K.Keeper.contents l.self.keeper)
    (g.K.Keeper.contents c.search.new.self.keeper) (g.K.Keeper.memories l.self.keeper) (g.K.Keeper.memories c.search.new.self.keeper) l.self.work
    c.search.new.self.work l.question c.search.new.question (Ok z)) c.in-Next.is c.in_ok-search.ensures)

pub close-requires : goal.close-requires
close-requires g c =
    let l = c.loop-at in
    close_back c.args.rules.now c.args.store.now (g.K.Keeper.contents c.args.self.now.keeper) (g.K.Keeper.contents l.self.keeper)
    (g.K.Keeper.contents c.search.new.self.keeper) (g.K.Keeper.memories c.args.self.now.keeper) (g.K.Keeper.memories l.self.keeper)
    (g.K.Keeper.memories c.search.new.self.keeper) c.args.self.now.work l.self.work c.search.new.self.work c.args.question.now l.question
    c.search.new.question l.trials l.invariant c.in-Back.at
    (subst (λ (z : Searched). HasSearched {E = AllocError} c.args.rules.now c.args.store.now (g.K.Keeper.contents l.self.keeper)
    (g.K.Keeper.contents c.search.new.self.keeper) (g.K.Keeper.memories l.self.keeper) (g.K.Keeper.memories c.search.new.self.keeper) l.self.work
    c.search.new.self.work l.question c.search.new.question (Ok z)) c.in-Back.is c.in_ok-search.ensures)

pub returns-in-Back : goal.returns-in-Back
returns-in-Back g c =
    let l = c.loop-at in
    along_back c.args.rules.now c.args.store.now (g.K.Keeper.contents c.args.self.now.keeper) (g.K.Keeper.contents l.self.keeper)
    (g.K.Keeper.contents c.search.new.self.keeper) (g.K.Keeper.memories c.args.self.now.keeper) (g.K.Keeper.memories l.self.keeper)
    (g.K.Keeper.memories c.search.new.self.keeper) c.args.self.now.work l.self.work c.search.new.self.work c.args.question.now l.question
    c.search.new.question l.trials l.invariant c.in-Back.at
    (subst (λ (z : Searched). HasSearched {E = AllocError} c.args.rules.now c.args.store.now (g.K.Keeper.contents l.self.keeper)
    (g.K.Keeper.contents c.search.new.self.keeper) (g.K.Keeper.memories l.self.keeper) (g.K.Keeper.memories c.search.new.self.keeper) l.self.work
    c.search.new.self.work l.question c.search.new.question (Ok z)) c.in-Back.is c.in_ok-search.ensures)
    (g.K.Keeper.contents c.close.new.self.keeper) (g.K.Keeper.memories c.close.new.self.keeper) c.close.new.self.work c.close.new.question c.close.result
    c.close.ensures

pub returns-in_err-search : goal.returns-in_err-search
returns-in_err-search g c =
    let l = c.loop-at in
    along_failed c.args.rules.now c.args.store.now (g.K.Keeper.contents c.args.self.now.keeper) (g.K.Keeper.contents l.self.keeper)
    (g.K.Keeper.contents c.search.new.self.keeper) (g.K.Keeper.memories c.args.self.now.keeper) (g.K.Keeper.memories l.self.keeper)
    (g.K.Keeper.memories c.search.new.self.keeper) c.args.self.now.work l.self.work c.search.new.self.work c.args.question.now l.question
    c.search.new.question l.trials l.invariant c.search.result c.search.ensures c.from_residual.result _
    ((err_from_is_err_and c.from_residual.result c.from_residual.ensures.1).1)

pub leave-requires : goal.leave-requires
leave-requires g c =
    let l = c.loop-at in
    let over = along_over c.args.rules.now c.args.store.now (g.K.Keeper.contents c.args.self.now.keeper) (g.K.Keeper.contents l.self.keeper)
    (g.K.Keeper.contents c.search.new.self.keeper) (g.K.Keeper.memories c.args.self.now.keeper) (g.K.Keeper.memories l.self.keeper)
    (g.K.Keeper.memories c.search.new.self.keeper) c.args.self.now.work l.self.work c.search.new.self.work c.args.question.now l.question
    c.search.new.question l.trials l.invariant
    (subst (λ (z : Searched). HasSearched {E = AllocError} c.args.rules.now c.args.store.now (g.K.Keeper.contents l.self.keeper)
    (g.K.Keeper.contents c.search.new.self.keeper) (g.K.Keeper.memories l.self.keeper) (g.K.Keeper.memories c.search.new.self.keeper) l.self.work
    c.search.new.self.work l.question c.search.new.question (Ok z)) c.in-Over.is c.in_ok-search.ensures) in
    let along = over.0 in
    record { along = along.can; done = over.1 }

pub returns-in_err-told : goal.returns-in_err-told
returns-in_err-told g c =
    let l = c.loop-at in
    let over = along_over c.args.rules.now c.args.store.now (g.K.Keeper.contents c.args.self.now.keeper) (g.K.Keeper.contents l.self.keeper)
    (g.K.Keeper.contents c.search.new.self.keeper) (g.K.Keeper.memories c.args.self.now.keeper) (g.K.Keeper.memories l.self.keeper)
    (g.K.Keeper.memories c.search.new.self.keeper) c.args.self.now.work l.self.work c.search.new.self.work c.args.question.now l.question
    c.search.new.question l.trials l.invariant
    (subst (λ (z : Searched). HasSearched {E = AllocError} c.args.rules.now c.args.store.now (g.K.Keeper.contents l.self.keeper)
    (g.K.Keeper.contents c.search.new.self.keeper) (g.K.Keeper.memories l.self.keeper) (g.K.Keeper.memories c.search.new.self.keeper) l.self.work
    c.search.new.self.work l.question c.search.new.question (Ok z)) c.in-Over.is c.in_ok-search.ensures) in
    left_wanting c.args.rules.now c.args.store.now (g.K.Keeper.contents c.args.self.now.keeper) (g.K.Keeper.contents c.search.new.self.keeper)
    (g.K.Keeper.contents c.leave.new.self.keeper) (g.K.Keeper.memories c.args.self.now.keeper) (g.K.Keeper.memories c.search.new.self.keeper)
    (g.K.Keeper.memories c.leave.new.self.keeper) c.args.self.now.work c.search.new.self.work c.leave.new.self.work c.args.question.now
    c.search.new.question c.leave.new.question l.trials over.0 c.leave.new.trials c.leave.result c.leave.ensures c.from_residual-in_err-told.result _
    ((err_from_is_err_and c.from_residual-in_err-told.result c.from_residual-in_err-told.ensures.1).1)

pub returns-in-Told : goal.returns-in-Told
returns-in-Told g c =
    let l = c.loop-at in
    let over = along_over c.args.rules.now c.args.store.now (g.K.Keeper.contents c.args.self.now.keeper) (g.K.Keeper.contents l.self.keeper)
    (g.K.Keeper.contents c.search.new.self.keeper) (g.K.Keeper.memories c.args.self.now.keeper) (g.K.Keeper.memories l.self.keeper)
    (g.K.Keeper.memories c.search.new.self.keeper) c.args.self.now.work l.self.work c.search.new.self.work c.args.question.now l.question
    c.search.new.question l.trials l.invariant
    (subst (λ (z : Searched). HasSearched {E = AllocError} c.args.rules.now c.args.store.now (g.K.Keeper.contents l.self.keeper)
    (g.K.Keeper.contents c.search.new.self.keeper) (g.K.Keeper.memories l.self.keeper) (g.K.Keeper.memories c.search.new.self.keeper) l.self.work
    c.search.new.self.work l.question c.search.new.question (Ok z)) c.in-Over.is c.in_ok-search.ensures) in
    left_so c.args.rules.now c.args.store.now (g.K.Keeper.contents c.args.self.now.keeper) (g.K.Keeper.contents c.search.new.self.keeper)
    (g.K.Keeper.contents c.leave.new.self.keeper) (g.K.Keeper.memories c.args.self.now.keeper) (g.K.Keeper.memories c.search.new.self.keeper)
    (g.K.Keeper.memories c.leave.new.self.keeper) c.args.self.now.work c.search.new.self.work c.leave.new.self.work c.args.question.now
    c.search.new.question c.leave.new.question l.trials over.0 c.leave.new.trials c.in-Told.told
    (subst (λ (z : Left). HasLeft {E = AllocError} c.args.rules.now c.args.store.now (g.K.Keeper.contents c.search.new.self.keeper)
    (g.K.Keeper.contents c.leave.new.self.keeper) (g.K.Keeper.memories c.search.new.self.keeper) (g.K.Keeper.memories c.leave.new.self.keeper)
    c.search.new.self.work c.leave.new.self.work c.search.new.question c.leave.new.question c.leave.new.trials (Ok z)) c.in-Told.is c.in_ok-told.ensures)

pub loop-at-preserved : goal.loop-at-preserved
loop-at-preserved g c =
    let l = c.loop-at in
    let over = along_over c.args.rules.now c.args.store.now (g.K.Keeper.contents c.args.self.now.keeper) (g.K.Keeper.contents l.self.keeper)
    (g.K.Keeper.contents c.search.new.self.keeper) (g.K.Keeper.memories c.args.self.now.keeper) (g.K.Keeper.memories l.self.keeper)
    (g.K.Keeper.memories c.search.new.self.keeper) c.args.self.now.work l.self.work c.search.new.self.work c.args.question.now l.question
    c.search.new.question l.trials l.invariant
    (subst (λ (z : Searched). HasSearched {E = AllocError} c.args.rules.now c.args.store.now (g.K.Keeper.contents l.self.keeper)
    (g.K.Keeper.contents c.search.new.self.keeper) (g.K.Keeper.memories l.self.keeper) (g.K.Keeper.memories c.search.new.self.keeper) l.self.work
    c.search.new.self.work l.question c.search.new.question (Ok z)) c.in-Over.is c.in_ok-search.ensures) in
    left_down c.args.rules.now c.args.store.now (g.K.Keeper.contents c.args.self.now.keeper) (g.K.Keeper.contents c.search.new.self.keeper)
    (g.K.Keeper.contents c.leave.new.self.keeper) (g.K.Keeper.memories c.args.self.now.keeper) (g.K.Keeper.memories c.search.new.self.keeper)
    (g.K.Keeper.memories c.leave.new.self.keeper) c.args.self.now.work c.search.new.self.work c.leave.new.self.work c.args.question.now
    c.search.new.question c.leave.new.question l.trials over.0 c.leave.new.trials
    (subst (λ (z : Left). HasLeft {E = AllocError} c.args.rules.now c.args.store.now (g.K.Keeper.contents c.search.new.self.keeper)
    (g.K.Keeper.contents c.leave.new.self.keeper) (g.K.Keeper.memories c.search.new.self.keeper) (g.K.Keeper.memories c.leave.new.self.keeper)
    c.search.new.self.work c.leave.new.self.work c.search.new.question c.leave.new.question c.leave.new.trials (Ok z)) c.in_default.is c.in_ok-told.ensures)

pub loop-at-smaller : goal.loop-at-smaller
loop-at-smaller g c =
    let l = c.loop-at in
    let over = along_over c.args.rules.now c.args.store.now (g.K.Keeper.contents c.args.self.now.keeper) (g.K.Keeper.contents l.self.keeper)
    (g.K.Keeper.contents c.search.new.self.keeper) (g.K.Keeper.memories c.args.self.now.keeper) (g.K.Keeper.memories l.self.keeper)
    (g.K.Keeper.memories c.search.new.self.keeper) c.args.self.now.work l.self.work c.search.new.self.work c.args.question.now l.question
    c.search.new.question l.trials l.invariant
    (subst (λ (z : Searched). HasSearched {E = AllocError} c.args.rules.now c.args.store.now (g.K.Keeper.contents l.self.keeper)
    (g.K.Keeper.contents c.search.new.self.keeper) (g.K.Keeper.memories l.self.keeper) (g.K.Keeper.memories c.search.new.self.keeper) l.self.work
    c.search.new.self.work l.question c.search.new.question (Ok z)) c.in-Over.is c.in_ok-search.ensures) in
    subst (λ ws. length c.leave.new.question.waiting.entries < length ws) c.in_ok-search.ensures.waiting
    (left_fewer c.args.rules.now c.args.store.now (g.K.Keeper.contents c.args.self.now.keeper) (g.K.Keeper.contents c.search.new.self.keeper)
    (g.K.Keeper.contents c.leave.new.self.keeper) (g.K.Keeper.memories c.args.self.now.keeper) (g.K.Keeper.memories c.search.new.self.keeper)
    (g.K.Keeper.memories c.leave.new.self.keeper) c.args.self.now.work c.search.new.self.work c.leave.new.self.work c.args.question.now
    c.search.new.question c.leave.new.question l.trials over.0 c.leave.new.trials
    (subst (λ (z : Left). HasLeft {E = AllocError} c.args.rules.now c.args.store.now (g.K.Keeper.contents c.search.new.self.keeper)
    (g.K.Keeper.contents c.leave.new.self.keeper) (g.K.Keeper.memories c.search.new.self.keeper) (g.K.Keeper.memories c.leave.new.self.keeper)
    c.search.new.self.work c.leave.new.self.work c.search.new.question c.leave.new.question c.leave.new.trials (Ok z)) c.in_default.is c.in_ok-told.ensures))

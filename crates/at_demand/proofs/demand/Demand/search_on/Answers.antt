use Rattle.std.proofs.lemmas.Result.{err_from_is_err_and}
use Rattle.at_demand.proofs.of_searches.SearchedOn.{is_back_on, is_failed_on, is_over_on, is_passed_on, is_unseen, is_untried_on, look_failed, over_at_end}
use Rattle.at_demand.proofs.of_searches.Stepping.{can_next}
use Rattle.at_demand.proofs.demand.Demand.search_on.Goals as goal

pub returns-in_default : goal.returns-in_default
returns-in_default g c =
    let m = c.args.self.now in
    over_at_end c.args.rules.now c.args.store.now (g.K.Keeper.contents m.keeper) c.args.question.now c.next.new.self c.in_default.ensures.same
    (g.K.Keeper.memories m.keeper) m.work m.few c.requires c.in_default.ensures.none

pub look_at-requires : goal.look_at-requires
look_at-requires g c =
    let can = c.requires in
    let st = can.stands in
    can_next c.args.rules.now c.args.store.now (g.K.Keeper.contents c.args.self.now.keeper) c.args.question.now c.next.new.self c.in-Some.inst
    c.in-Some.ensures.some st.can

pub returns-in_err-look_at : goal.returns-in_err-look_at
returns-in_err-look_at g c =
    let old = c.args.question.now in
    let m = c.args.self.now in
    let n = c.look_at.new.self in
    let mid = c.next.new.self in
    let i = c.in-Some.inst in
    look_failed c.args.rules.now c.args.store.now (g.K.Keeper.contents m.keeper) (g.K.Keeper.contents n.keeper)
    (g.K.Keeper.memories m.keeper) (g.K.Keeper.memories n.keeper) m.work n.work old mid c.look_at.new.question i c.in-Some.ensures.some c.requires c.look_at.result c.look_at.ensures c.from_residual.result _ ((err_from_is_err_and c.from_residual.result c.from_residual.ensures.1).1)

pub returns-in-Passed : goal.returns-in-Passed
returns-in-Passed g c =
    let old = c.args.question.now in
    let m = c.args.self.now in
    let n = c.look_at.new.self in
    let mid = c.next.new.self in
    let i = c.in-Some.inst in
    is_passed_on c.args.rules.now c.args.store.now (g.K.Keeper.contents m.keeper) (g.K.Keeper.contents n.keeper)
    (g.K.Keeper.memories m.keeper) (g.K.Keeper.memories n.keeper) m.work n.work old mid c.look_at.new.question i c.in-Some.ensures.some c.requires c.in_ok-look_at.field-0 c.in_ok-look_at.ensures c.in-Passed.is

pub returns-in-Back : goal.returns-in-Back
returns-in-Back g c =
    let old = c.args.question.now in
    let m = c.args.self.now in
    let n = c.look_at.new.self in
    let mid = c.next.new.self in
    let i = c.in-Some.inst in
    is_back_on c.args.rules.now c.args.store.now (g.K.Keeper.contents m.keeper) (g.K.Keeper.contents n.keeper)
    (g.K.Keeper.memories m.keeper) (g.K.Keeper.memories n.keeper) m.work n.work old mid c.look_at.new.question i c.in-Some.ensures.some c.requires c.in_ok-look_at.field-0 c.in_ok-look_at.ensures c.in-Back.is

pub returns-in-Untried : goal.returns-in-Untried
returns-in-Untried g c =
    let old = c.args.question.now in
    let m = c.args.self.now in
    let n = c.look_at.new.self in
    let mid = c.next.new.self in
    let i = c.in-Some.inst in
    is_untried_on c.args.rules.now c.args.store.now (g.K.Keeper.contents m.keeper) (g.K.Keeper.contents n.keeper)
    (g.K.Keeper.memories m.keeper) (g.K.Keeper.memories n.keeper) m.work n.work old mid c.look_at.new.question i c.in-Some.ensures.some c.requires c.in_ok-look_at.field-0 c.in_ok-look_at.ensures c.in-Untried.is

pub go_over-requires : goal.go_over-requires
go_over-requires g c =
    let old = c.args.question.now in
    let m = c.args.self.now in
    let n = c.look_at.new.self in
    let mid = c.next.new.self in
    let i = c.in-Some.inst in
    is_unseen c.args.rules.now c.args.store.now (g.K.Keeper.contents m.keeper) (g.K.Keeper.contents n.keeper)
    (g.K.Keeper.memories m.keeper) (g.K.Keeper.memories n.keeper) m.work n.work old mid c.look_at.new.question i c.in-Some.ensures.some c.requires c.in_ok-look_at.field-0 c.in_ok-look_at.ensures c.in-Ended.is

pub returns-in_err-go_over-in-Ended : goal.returns-in_err-go_over-in-Ended
returns-in_err-go_over-in-Ended g c =
    let old = c.args.question.now in
    let m = c.args.self.now in
    let n = c.look_at.new.self in
    let mid = c.next.new.self in
    let i = c.in-Some.inst in
    is_failed_on c.args.rules.now c.args.store.now (g.K.Keeper.contents m.keeper) (g.K.Keeper.contents n.keeper)
    (g.K.Keeper.memories m.keeper) (g.K.Keeper.memories n.keeper) m.work n.work old mid c.look_at.new.question i c.in-Some.ensures.some c.requires c.in_ok-look_at.field-0 c.in_ok-look_at.ensures c.go_over.new.self c.from_residual-in_err-go_over-in-Ended.result _
    ((err_from_is_err_and c.from_residual-in_err-go_over-in-Ended.result c.from_residual-in_err-go_over-in-Ended.ensures.1).1) c.go_over.ensures.rest

pub returns-in_ok-go_over-in-Ended : goal.returns-in_ok-go_over-in-Ended
returns-in_ok-go_over-in-Ended g c =
    let old = c.args.question.now in
    let m = c.args.self.now in
    let n = c.look_at.new.self in
    let mid = c.next.new.self in
    let i = c.in-Some.inst in
    is_over_on c.args.rules.now c.args.store.now (g.K.Keeper.contents m.keeper) (g.K.Keeper.contents n.keeper)
    (g.K.Keeper.memories m.keeper) (g.K.Keeper.memories n.keeper) m.work n.work old mid c.look_at.new.question i c.in-Some.ensures.some c.requires c.in_ok-look_at.field-0 c.in_ok-look_at.ensures c.in-Ended.is c.go_over.new.self c.in_ok-go_over-in-Ended.ensures.over

use Rattle.std.proofs.Common.{List, subst, ap, ◌∙◌}
use Rattle.std.proofs.lemmas.List.{take_all}
use Rattle.at_search.specs.declared.solving.Solved.{Solved}
use Rattle.at_demand.specs.declared.evaluation.Demanded.{Demanded}
use Rattle.at_demand.proofs.Grouped.{IsFindSoFar, find_all, find_more, find_none}
use Rattle.at_demand.proofs.demand.Demand.find_of.Goals as goal

pub loop-member-init : goal.loop-member-init
loop-member-init g c =
    find_none (g.K.Keeper.contents c.args.self.now.keeper) c.args.question.now c.args.insts.now c.find_with-find.result
    c.find_with-find.ensures.reads (ap (λ (d : Demanded). d.kept.items) c.find_with-find.ensures.demanded ∙ c.new-none.ensures.kept)
    (ap (λ (d : Demanded). d.finds.items) c.find_with-find.ensures.demanded ∙ c.new-none.ensures.finds)

pub loop-member-preserved : goal.loop-member-preserved
loop-member-preserved g c =
    find_more (g.K.Keeper.contents c.args.self.now.keeper) c.args.question.now c.args.insts.now c.args.group.now c.loop-member.member-index _
    c.find_with-find.result c.loop-member.find c.add_member.new.find c.loop-member-test.true c.in_ok-add_member.ensures c.loop-member.invariant

pub returns : goal.returns
returns g c =
    let entries = g.K.Keeper.contents c.args.self.now.keeper in
    find_all entries c.args.question.now c.args.insts.now c.args.group.now c.args.value c.find_with-find.result c.loop-member.find
    c.find_with-find.ensures.is (subst (λ (ms : List Solved). IsFindSoFar entries c.args.question.now c.args.insts.now ms c.find_with-find.result
    c.loop-member.find) (take_all c.loop-member.member-index c.args.group.now c.loop-member-test.false) c.loop-member.invariant)

use Rattle.at_search.proofs.Shutting.{opened_more}
use Rattle.at_search.proofs.system.System.shut.Goals as goal

pub loop-member-preserved : goal.loop-member-preserved
loop-member-preserved c =
    opened_more c.args.group.now c.loop-member.member-index 0 c.args.self.now c.loop-member.self c.open_at.new.self c.loop-member-test.true
    c.open_at.ensures.heads c.open_at.ensures.edges c.open_at.ensures.conditions c.open_at.ensures.open c.loop-member.invariant

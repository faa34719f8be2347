use Rattle.std.proofs.Common.{OnOk, subst}
use Rattle.at_search.specs.Systems.{HasPushed}
use Rattle.at_search.proofs.Adding.{two_added}
use Rattle.at_search.proofs.conditions.Conditions.push_two.Goals as goal

pub returns-clause-added : goal.returns-clause-added
returns-clause-added c = λ known insts ps u.
    two_added known insts c.push.result c.args.self.now c.operand.new.self c.operand-2.new.self c.push.new.self ps c.args.conjunction
    c.in_ok-right.right c.in_ok-left.left c.in_ok-first.first c.in_ok-second.second u c.in_ok-right.ensures.operand c.operand.ensures.stays
    c.in_ok-left.ensures.operand c.operand-2.ensures.stays c.in_ok-first.ensures c.in_ok-second.ensures c.push.ensures.stays
    (subst (λ z. OnOk c.push.result (HasPushed z c.operand-2.new.self c.push.new.self)) c.pair.ensures c.push.ensures.pushed)

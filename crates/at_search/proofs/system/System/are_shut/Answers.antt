use Rattle.std.proofs.Common.{ℕ, List, subst}
use Rattle.std.proofs.lemmas.List.{take_all}
use Rattle.at_search.specs.Solved.{AreShut}
use Rattle.at_search.proofs.Shutting.{not_shut, one_shut}
use Rattle.at_search.proofs.system.System.are_shut.Goals as goal

pub loop-member-preserved : goal.loop-member-preserved
loop-member-preserved c =
    one_shut c.args.self.now c.args.group.now c.loop-member.member-index 0 c.is_shut_at.result c.loop-member-test.true
    c.if-not-is_shut_at.false c.is_shut_at.ensures c.loop-member.invariant

pub returns-then-not-is_shut_at : goal.returns-then-not-is_shut_at
returns-then-not-is_shut_at c =
    not_shut c.args.self.now c.args.group.now c.loop-member.member-index 0 c.is_shut_at.result c.loop-member-test.true
    c.if-not-is_shut_at.true c.is_shut_at.ensures

pub returns : goal.returns
returns c =
    subst (λ (xs : List ℕ). AreShut c.args.self.now xs)
    (take_all c.loop-member.member-index c.args.group.now c.loop-member-test.false) c.loop-member.invariant

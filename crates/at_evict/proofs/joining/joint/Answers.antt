use Rattle.at_evict.proofs.of_folding.Joined.{are_joint}
use Rattle.at_evict.proofs.joining.joint.Goals as goal

pub returns : goal.returns
returns c = are_joint c.args.some.now c.args.more.now c.with.result (c.are.ensures c.if-not-are.false) c.with.ensures.both

use Rattle.at_evict.proofs.of_folding.Joined.{joins_at}
use Rattle.at_evict.proofs.joining.joint_before.Goals as goal

pub returns-in-Some : goal.returns-in-Some
returns-in-Some c =
    joins_at c.args.readers.now c.loop-before.before c.args.place c.in-Some.facet c.index-readers-before.result c.index-readers-place.result
    c.loop-before-test.true c.requires c.index-readers-before.is c.index-readers-place.is c.in-Some.ensures

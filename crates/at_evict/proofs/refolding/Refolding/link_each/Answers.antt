use Rattle.at_evict.proofs.Common.{subst, take_all, get, LinkedTo, listed_at, into_of}
use Rattle.at_evict.proofs.of_folding.Linking.{to_none}
use Rattle.at_evict.proofs.of_folding.Walking.{to_more}
use Rattle.at_evict.proofs.refolding.Refolding.link_each.Goals as goal

pub loop-target-init : goal.loop-target-init
loop-target-init c = to_none _ _

pub loop-target-preserved : goal.loop-target-preserved
loop-target-preserved c = to_more c.args.targets.now c.loop-target.target-index 0 _ _ _ c.loop-target-test.true c.loop-target.invariant c.in_ok-link_to.ensures

pub returns : goal.returns
returns c = subst (λ xs. LinkedTo (into_of c.args.self.now) xs c.args.links.now (listed_at (get c.args.self.now.entries.now.places) c.args.lists.now.items)
    (listed_at (get c.args.self.now.entries.now.places) c.loop-target.lists.items))
    (take_all c.loop-target.target-index c.args.targets.now c.loop-target-test.false) c.loop-target.invariant

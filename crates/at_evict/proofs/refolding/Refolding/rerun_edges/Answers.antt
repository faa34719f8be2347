use Rattle.at_evict.proofs.Common.{List, [], subst, sym, take_all, Reach, into_of, memory_of, AreRerun}
use Rattle.at_evict.proofs.of_folding.Rerun.{rerun_more, rerun_none}
use Rattle.at_evict.proofs.refolding.Refolding.rerun_edges.Goals as goal

pub loop-reach-init : goal.loop-reach-init
loop-reach-init c =
    let f = c.args.self.now in
    subst (λ (rs : List Reach). AreRerun (memory_of f.entries.now) (into_of f) [] rs) (sym c.in_ok-made.ensures.items) (rerun_none _ _)

pub loop-reach-preserved : goal.loop-reach-preserved
loop-reach-preserved c =
    rerun_more _ _ c.args.edges.now c.loop-reach.reach-index _ _ _ c.loop-reach-test.true c.loop-reach.invariant c.in_ok-rerun_edge.ensures

pub returns : goal.returns
returns c = subst (λ (rs : List Reach). AreRerun (memory_of c.args.self.now.entries.now) (into_of c.args.self.now) rs c.loop-reach.made.items)
    (take_all c.loop-reach.reach-index c.args.edges.now c.loop-reach-test.false) c.loop-reach.invariant

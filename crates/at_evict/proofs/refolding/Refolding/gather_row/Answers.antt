use Rattle.at_evict.proofs.of_folding.Walking.{behind_all, behind_none, behind_one}
use Rattle.at_evict.proofs.refolding.Refolding.gather_row.Goals as goal

pub loop-edge-init : goal.loop-edge-init
loop-edge-init c = behind_none _ _ _ _

pub loop-edge-preserved : goal.loop-edge-preserved
loop-edge-preserved c =
    behind_one _ _ _ _ _ c.in-Some.edge _ _ _ c.loop-edge.invariant c.in-Some.ensures c.in_ok-gather_edge.ensures

pub returns : goal.returns
returns c = behind_all _ _ _ _ _ _ c.loop-edge.invariant c.in_default.ensures

use Rattle.at_evict.proofs.Common.{on_ok_weaker}
use Rattle.at_evict.proofs.of_folding.Parting.{refolded_parted}
use Rattle.at_evict.proofs.refolding.Refolding.change_rows.Goals as goal

pub returns : goal.returns
returns c = on_ok_weaker c.add_edges_to.result
    (λ added. refolded_parted _ _ _ _ _ _ _ c.sort_unstable.ensures.permutation (c.in_ok-part.ensures c.clear.ensures.items) added) c.add_edges_to.ensures

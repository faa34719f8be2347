use Rattle.at_evict.proofs.of_folding.Joined.{refolded_same}
use Rattle.at_evict.proofs.refolding.Refolding.rewrite_facets.Goals as goal

pub returns : goal.returns
returns c = refolded_same _ _ c.args.readers.now.items c.rewrite_node.new.readers.items _ c.in_ok-rewrite_node.ensures c.join.ensures

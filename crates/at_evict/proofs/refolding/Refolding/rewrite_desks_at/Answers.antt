use Rattle.at_evict.proofs.Common.{index_map_len-with_value_at}
use Rattle.at_evict.proofs.of_folding.AtDesks.{one_node_of_desks, set_other}
use Rattle.at_evict.proofs.refolding.Refolding.rewrite_desks_at.Goals as goal

pub returns : goal.returns
returns c =
    let ds = c.args.all.now.entries in
    let w = c.rewrite_desks_of.new.desks in
    let r = c.pair_mut-desks.result in
    record {
      here = one_node_of_desks _ _ ds c.args.place r.0.now r.1.now w c.rewrite_desks_of.result c.pair_mut-desks.ensures.value c.rewrite_desks_of.ensures;
      others = λ k differs. set_other ds c.args.place k w differs;
      len = index_map_len-with_value_at c.args.all.now c.args.place w;
    }

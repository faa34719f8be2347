use Rattle.at_evict.proofs.Common.{index_map_len-with_value_at}
use Rattle.at_evict.proofs.of_folding.AtDesks.{one_desk, set_other}
use Rattle.at_evict.proofs.refolding.Refolding.rewrite_desk.Goals as goal

pub returns : goal.returns
returns c =
    let ds = c.args.desks.now.spots.entries in
    let w = c.rewrite_list.new.edges in
    let r = c.pair_mut-edges.result in
    record {
      here = one_desk _ _ ds c.args.place r.0.now r.1.now w c.rewrite_list.result c.pair_mut-edges.ensures.value c.rewrite_list.ensures;
      others = λ k differs. set_other ds c.args.place k w differs;
      len = index_map_len-with_value_at c.args.desks.now.spots c.args.place w;
    }

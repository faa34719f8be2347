use Rattle.at_evict.proofs.Common.{ap, option_map, sym, info, memory_of, is_current}
use Rattle.at_evict.proofs.of_folding.Relinking.{relinks_settled}
use Rattle.at_evict.proofs.relinking.is_settled.Goals as goal

pub returns-in-Some : goal.returns-in-Some
returns-in-Some c into lone t =
    relinks_settled into c.args.links.now c.args.slot (memory_of c.args.entries.now) _ (c.are_none.ensures c.if-not-are_none.false)
    (ap (option_map info) (sym c.in-Some.ensures)) (c.is_left.ensures.stay (is_current (memory_of c.args.entries.now)) into lone t)
    (c.is_left.ensures.alone (is_current (memory_of c.args.entries.now)) into lone t)

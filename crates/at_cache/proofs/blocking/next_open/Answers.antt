use Rattle.at_cache.proofs.of_cut.InTheWay.{leads_found}
use Rattle.at_cache.proofs.blocking.next_open.Goals as goal

pub returns : goal.returns
returns c =
    leads_found c.args.entries.now c.args.standings.now c.args.slot _ _ c.as_slice.result.now c.first_open.result
    c.standing_at-standing.ensures c.if-not-standing.false c.in_ok-entry.ensures c.as_slice.ensures c.first_open.ensures

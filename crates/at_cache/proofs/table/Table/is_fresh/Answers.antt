use Rattle.at_cache.proofs.Common.{◌∙◌}
use Rattle.at_cache.proofs.Telling.{fresh_none, fresh_some}
use Rattle.at_cache.proofs.table.Table.is_fresh.Goals as goal

pub returns-in-Some : goal.returns-in-Some
returns-in-Some c = c.is_fresh.ensures ∙ fresh_some c.args.edge.now _ _ c.in-Some.ensures

pub returns-in-None : goal.returns-in-None
returns-in-None c = fresh_none c.args.edge.now _ c.in-None.ensures

use Rattle.at_cache.proofs.Telling.{current_none, current_some}
use Rattle.at_cache.proofs.table.Table.is_current.Goals as goal

pub returns-in-Some : goal.returns-in-Some
returns-in-Some c = current_some c.args.edge.now _ _ c.in-Some.ensures

pub returns-in-None : goal.returns-in-None
returns-in-None c = current_none c.args.edge.now _ c.in-None.ensures

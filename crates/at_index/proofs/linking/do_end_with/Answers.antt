use Rattle.at_index.proofs.Common.{sym}
use Rattle.at_index.proofs.RowLists.{along_has}
use Rattle.at_index.proofs.linking.do_end_with.Goals as goal

pub returns-in-Some : goal.returns-in-Some
returns-in-Some c h = along_has c.args.rows.now _ _ c.args.edge (sym c.in-Some.ensures.value) (c.ends_with.ensures h)

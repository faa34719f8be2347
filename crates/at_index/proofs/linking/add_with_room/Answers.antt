use Rattle.at_index.proofs.Common.{refl}
use Rattle.at_index.proofs.RowLists.{has_row, lists_row}
use Rattle.at_index.proofs.linking.add_with_room.Goals as goal

pub returns-clause-lists : goal.returns-clause-lists
returns-clause-lists g c = lists_row _ _ c.of.result c.args.edge refl c.make_room.ensures c.in_ok-push.ensures.ok c.of.ensures

pub returns-clause-has : goal.returns-clause-has
returns-clause-has g c = has_row _ _ c.of.result c.args.edge c.in_ok-push.ensures.ok c.of.ensures

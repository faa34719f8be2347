use Rattle.at_index.proofs.Common.{refl}
use Rattle.at_index.proofs.Listing.{keeps_itself}
use Rattle.at_index.proofs.RowLists.{has_row, lists_row}
use Rattle.at_index.proofs.linking.add_row.Goals as goal

pub returns-then-len-capacity-clause-lists : goal.returns-then-len-capacity-clause-lists
returns-then-len-capacity-clause-lists g c = lists_row _ _ c.of.result c.args.edge refl (keeps_itself _ _) c.push_reserved.ensures.items c.of.ensures

pub returns-then-len-capacity-clause-has : goal.returns-then-len-capacity-clause-has
returns-then-len-capacity-clause-has g c = has_row _ _ c.of.result c.args.edge c.push_reserved.ensures.items c.of.ensures

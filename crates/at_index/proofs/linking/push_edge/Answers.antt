use Rattle.at_index.proofs.Common.{◌∙◌, ap, sym, SmallVec, Row, edges_along}
use Rattle.at_index.proofs.Listing.{keeps_itself, listed_one, lists_same}
use Rattle.at_index.proofs.RowLists.{has_row, lists_row}
use Rattle.at_index.proofs.linking.push_edge.Goals as goal

pub returns-then-extends_last-clause-lists : goal.returns-then-extends_last-clause-lists
returns-then-extends_last-clause-lists c m = listed_one (keeps_itself m _) (rw c.if-extends_last.true at c.extends_last.ensures)

pub returns-then-do_end_with-clause-lists : goal.returns-then-do_end_with-clause-lists
returns-then-do_end_with-clause-lists c m = lists_same (ap edges_along (rw c.if-extends_last.false at c.extends_last.ensures))

pub returns-in_err-push-clause-lists : goal.returns-in_err-push-clause-lists
returns-in_err-push-clause-lists c m =
    let same = rw c.if-extends_last.false at c.extends_last.ensures in
    lists_same (ap (λ (v : SmallVec Row). edges_along v.items) c.in_err-push.ensures.err ∙ ap edges_along same)

pub returns-clause-lists : goal.returns-clause-lists
returns-clause-lists c m =
    let same = rw c.if-extends_last.false at c.extends_last.ensures in
    lists_row _ _ c.of.result c.args.edge (sym (ap edges_along same)) (keeps_itself m _) c.in_ok-push.ensures.ok c.of.ensures

pub returns-clause-has : goal.returns-clause-has
returns-clause-has c = has_row _ _ c.of.result c.args.edge c.in_ok-push.ensures.ok c.of.ensures

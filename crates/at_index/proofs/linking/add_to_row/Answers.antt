use Rattle.at_index.proofs.Common.{sym, subst, edges_in, Lists}
use Rattle.at_index.proofs.Listing.{listed_one}
use Rattle.at_index.proofs.OneEdge.{alone_has}
use Rattle.at_index.proofs.linking.add_to_row.Goals as goal

pub returns-then-is_outdated-clause-lists : goal.returns-then-is_outdated-clause-lists
returns-then-is_outdated-clause-lists g c =
    subst (λ es. Lists (g.T.Tells.tells c.args.teller.now) c.args.edge es (edges_in c.of.result))
    (sym c.requires.row) (listed_one (c.is_outdated.ensures c.if-is_outdated.true) c.of.ensures)

pub returns-then-is_outdated-clause-has : goal.returns-then-is_outdated-clause-has
returns-then-is_outdated-clause-has g c = alone_has _ _ c.of.ensures

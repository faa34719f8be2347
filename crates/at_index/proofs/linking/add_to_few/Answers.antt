use Rattle.at_index.proofs.Common.{sym, subst, Contains, Contains-push, edges_in, Lists}
use Rattle.at_index.proofs.Listing.{listed_one}
use Rattle.at_index.proofs.linking.add_to_few.Goals as goal

pub returns-in_ok-edges-clause-lists : goal.returns-in_ok-edges-clause-lists
returns-in_ok-edges-clause-lists g c =
    subst (λ es. Lists (g.T.Tells.tells c.args.teller.now) c.args.edge es (edges_in c.in_ok-edges.field-0))
    (sym c.requires.row) (listed_one c.trimmed.ensures c.in_ok-edges.ensures)

pub returns-in_ok-edges-clause-has : goal.returns-in_ok-edges-clause-has
returns-in_ok-edges-clause-has g c =
    subst (λ es. Contains es c.args.edge) (sym c.in_ok-edges.ensures) (Contains-push _ c.args.edge)

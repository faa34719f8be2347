use Rattle.at_index.proofs.Common.{refl, Readers}
use Rattle.at_index.proofs.linking.add_facet.Goals as goal

pub returns-clause-added : goal.returns-clause-added
returns-clause-added c =
    let r : Readers = record { facet = c.args.facet; edges = c.of.result } in
    (r, rw c.in_ok-push.was at c.push.ensures.ok, refl, c.of.ensures)

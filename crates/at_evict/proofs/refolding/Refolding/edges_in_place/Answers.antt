use Rattle.at_evict.proofs.refolding.Refolding.edges_in_place.Goals as goal

pub returns-in-Some : goal.returns-in-Some
returns-in-Some c = rw c.in-Some.ensures c.edges_for.ensures

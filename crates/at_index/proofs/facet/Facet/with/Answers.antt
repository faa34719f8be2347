use Rattle.at_index.proofs.Locations.{stands_with}
use Rattle.at_index.proofs.facet.Facet.with.Goals as goal

pub returns-in-Near-Near-clause-both : goal.returns-in-Near-Near-clause-both
returns-in-Near-Near-clause-both c n l = rw (c.in-Near-Near.is-0, c.in-Near-Near.is-1) (stands_with c.in-Near-Near.some c.in-Near-Near.more n l)

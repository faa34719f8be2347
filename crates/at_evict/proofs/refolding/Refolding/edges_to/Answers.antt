use Rattle.at_evict.proofs.Common.{ap, option_map, sym, info}
use Rattle.at_evict.proofs.refolding.Refolding.edges_to.Goals as goal

pub returns-in-Some : goal.returns-in-Some
returns-in-Some c = (_, ap (option_map info) (sym c.in-Some.ensures), c.of.ensures)

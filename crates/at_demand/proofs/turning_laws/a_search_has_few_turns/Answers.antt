use Rattle.at_demand.proofs.of_levels.Wholes.{few_searches}
use Rattle.at_demand.proofs.turning_laws.a_search_has_few_turns.Goals as goal

pub returns : goal.returns
returns c = λ rules s idle q p like ok sound formed n u silent. few_searches rules s idle ok sound q p like formed n u silent

use Rattle.at_model.proofs.of_searching.ByRules.{few_of_rules}
use Rattle.at_model.proofs.searching_laws.a_search_has_few_turns.Goals as goal

pub returns : goal.returns
returns c rules ok t sound q formed n s x = few_of_rules rules ok t sound q formed n s x

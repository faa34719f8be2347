use Rattle.at_model.proofs.of_searching.Turned.{begun_on}
use Rattle.at_model.proofs.of_searching.ByRules.{told, stays_on}
use Rattle.at_model.proofs.searching_laws.a_turn_leaves_a_search_on_its_tree.Goals as goal

pub returns-clause-begun : goal.returns-clause-begun
returns-clause-begun c look forms q = begun_on look forms told q

pub returns-clause-stays : goal.returns-clause-stays
returns-clause-stays c rules ok t sound q formed kept right s new on x = stays_on rules ok t sound q formed kept right s new on x

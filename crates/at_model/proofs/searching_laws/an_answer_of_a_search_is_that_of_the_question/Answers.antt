use Rattle.at_model.proofs.of_searching.ByRules.{answered}
use Rattle.at_model.proofs.searching_laws.an_answer_of_a_search_is_that_of_the_question.Goals as goal

pub returns : goal.returns
returns c rules ok t sound q formed kept right s new a on x = answered rules ok t sound q formed kept right s new a on x

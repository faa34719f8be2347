use Rattle.at_search.proofs.ToldValues.{told}
use Rattle.at_search.proofs.laws.what_is_shut_has_its_value.Goals as goal

pub returns : goal.returns
returns c = told

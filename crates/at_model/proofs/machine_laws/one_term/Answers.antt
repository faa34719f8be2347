use Rattle.at_model.specs.Terms.{max_depth}
use Rattle.at_model.proofs.of_texts.OneTerm.{same_term}
use Rattle.at_model.proofs.machine_laws.one_term.Goals as goal

pub returns : goal.returns
returns c = same_term max_depth max_depth

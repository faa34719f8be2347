use Rattle.at_model.proofs.SampleRules.{no_argument, no_texts, no_declaration}
use Rattle.at_model.proofs.typing_cases.what_has_no_kind.Goals as goal

pub returns-clause-argument : goal.returns-clause-argument
returns-clause-argument c = no_argument

pub returns-clause-texts : goal.returns-clause-texts
returns-clause-texts c = no_texts

pub returns-clause-below : goal.returns-clause-below
returns-clause-below c = no_declaration

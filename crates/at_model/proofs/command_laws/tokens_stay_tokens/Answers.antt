use Rattle.at_model.proofs.of_machines.TokensKept.{tokens_served}
use Rattle.at_model.proofs.command_laws.tokens_stay_tokens.Goals as goal

pub returns : goal.returns
returns c = λ rules. tokens_served rules

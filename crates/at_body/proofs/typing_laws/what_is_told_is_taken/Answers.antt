use Rattle.at_body.proofs.of_typing.TypedUses.{told}
use Rattle.at_body.proofs.typing_laws.what_is_told_is_taken.Goals as goal

pub returns : goal.returns
returns c = told

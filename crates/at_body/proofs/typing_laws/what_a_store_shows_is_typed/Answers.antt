use Rattle.at_body.proofs.of_typing.TypedShown.{shown_typed}
use Rattle.at_body.proofs.typing_laws.what_a_store_shows_is_typed.Goals as goal

pub returns : goal.returns
returns c = shown_typed

use Rattle.tries.proofs.Noted.{none_noted}
use Rattle.tries.proofs.known.Values.new.Goals as goal

pub returns : goal.returns
returns c rules at = none_noted rules at c.new.result.entries c.new.ensures.empty

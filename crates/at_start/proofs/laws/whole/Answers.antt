use Rattle.at_start.proofs.WholeLemmas.{whole}
use Rattle.at_start.proofs.laws.whole.Goals as goal

pub returns : goal.returns
returns c = whole

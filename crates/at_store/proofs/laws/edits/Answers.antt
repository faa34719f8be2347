use Rattle.at_store.proofs.Relabelled.{relabelled-left}
use Rattle.at_store.proofs.laws.edits.Goals as goal

pub returns : goal.returns
returns c = λ s class e. relabelled-left class s e

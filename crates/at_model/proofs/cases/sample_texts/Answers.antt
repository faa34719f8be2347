use Rattle.std.proofs.Common.{refl}
use Rattle.at_model.specs.Classes.{chain}
use Rattle.std.specs.Fmt.{digits}
use Rattle.at_model.proofs.cases.sample_texts.Goals as goal

pub returns-clause-tree : goal.returns-clause-tree
unfolding chain digits
returns-clause-tree c = refl

pub returns-clause-path : goal.returns-clause-path
unfolding chain digits
returns-clause-path c = refl

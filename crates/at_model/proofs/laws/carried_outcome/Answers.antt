use Rattle.at_model.specs.Meaning.{content, equations}
use Rattle.at_model.proofs.of_likeness.EquationsAlike.{equations-like}
use Rattle.at_model.proofs.of_likeness.Carrying.{carried}
use Rattle.at_model.proofs.laws.carried_outcome.Goals as goal

pub returns : goal.returns
returns c = λ carry injective rules before after. carried (content before) (content after) (equations rules) (equations rules) (equations-like carry injective rules)

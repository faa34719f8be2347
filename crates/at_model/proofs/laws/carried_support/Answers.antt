use Rattle.at_model.specs.Meaning.{content, equations}
use Rattle.at_model.proofs.of_likeness.EquationsAlike.{equations-like}
use Rattle.at_model.proofs.of_likeness.CarryingSupport.{supports_there, supports_here}
use Rattle.at_model.proofs.laws.carried_support.Goals as goal

pub returns-clause-kept : goal.returns-clause-kept
returns-clause-kept c = λ carry injective rules before after. supports_there (content before) (content after) (equations rules) (equations rules) (equations-like carry injective rules)

pub returns-clause-no_others : goal.returns-clause-no_others
returns-clause-no_others c = λ carry injective rules before after i j m o like alike h s.
    supports_here (content before) (content after) (equations rules) (equations rules) (equations-like carry injective rules) i j o m h alike like s

use Rattle.std.proofs.Common.{◌++◌, length, refl}
use Rattle.std.proofs.lemmas.Bool.{le-leb, lt-leb}
use Rattle.at_model.proofs.forms.long_texts.Goals as goal

pub returns-clause-text : goal.returns-clause-text
returns-clause-text c = λ a b h. rw (le-leb (length (a ++ b)) 65535 h) refl

pub returns-clause-long : goal.returns-clause-long
returns-clause-long c = λ a b h. rw (lt-leb (length (a ++ b)) 65535 h) refl

use Rattle.std.proofs.Common.{◌++◌, length, codes, refl}
use Rattle.std.proofs.lemmas.Bool.{le-leb, lt-leb}
use Rattle.std.specs.Fmt.{digits}
use Rattle.at_model.proofs.form_cases.long_decimals.Goals as goal

pub returns-clause-text : goal.returns-clause-text
unfolding digits
returns-clause-text c = λ a h. rw (le-leb (length (a ++ codes "-7")) 65535 h) refl

pub returns-clause-long : goal.returns-clause-long
unfolding digits
returns-clause-long c = λ a h. rw (lt-leb (length (a ++ codes "-7")) 65535 h) refl

use Rattle.std.proofs.Common.{refl}
use Rattle.std.specs.Fmt.{digits}
use Rattle.at_model.proofs.machine_cases.a_line_as_text.Goals as goal

pub returns : goal.returns
unfolding digits
returns c = refl

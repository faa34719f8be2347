use Rattle.std.proofs.Common.{ap, sym}
use Rattle.std.proofs.Output.{has_written_of_eq}
use Rattle.attrd.specs.Failures.{failure_text}
use Rattle.attrd.proofs.failure.FailureDisplay.fmt.Goals as goal

-- the text is said of `self`, which is a `File`
pub returns-in-File-clause-writes : goal.returns-in-File-clause-writes
returns-in-File-clause-writes g c plain ok =
    has_written_of_eq _ _ _ _ _ (sym (ap failure_text c.in-File.is)) (c.write-in-File.ensures.writes plain ok)

use Rattle.at_text.proofs.Scanned.{cut_only}
use Rattle.at_text.proofs.scan.one_cut.Goals as goal

pub returns : goal.returns
returns c = cut_only

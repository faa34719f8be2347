use Rattle.at_text.proofs.Scanned.{fault_only, fault_same}
use Rattle.at_text.proofs.scan.one_fault.Goals as goal

pub returns : goal.returns
returns c = record { uncut = fault_only; first = fault_same }

use Rattle.at_text.proofs.Scanned.{bad_faults}
use Rattle.at_text.proofs.scan.fault.Goals as goal

pub returns-in-Bad : goal.returns-in-Bad
returns-in-Bad c = bad_faults c.args.text.now c.args.rest.now c.in-Bad.tail.now c.utf8.rest (rw c.in-Bad.is at c.requires.breaks)

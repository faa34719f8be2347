use Rattle.at_text.proofs.Scanned.{boundary_before}
use Rattle.at_text.proofs.scan.before.Goals as goal

pub split_at-requires : goal.split_at-requires
split_at-requires c = boundary_before c.args.text.now c.requires.0 c.args.after.now c.requires.1 c.utf8.after

use Rattle.std.proofs.Common.{rules}
use Rattle.at_protocol.proofs.Cuts.{behind_sign}
use Rattle.at_protocol.proofs.line.words.cut_at.Goals as goal

pub split_at-requires-2 : goal.split_at-requires-2
split_at-requires-2 c = behind_sign c.args.sign c.args.text.now c.loop-at.at c.utf8.text c.requires (search rules) (search rules)

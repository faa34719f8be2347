use Rattle.std.proofs.Common.{sym, arith}
use Rattle.at_tree.proofs.Unfixed.{no_parts}
use Rattle.at_tree.proofs.tree.writing.parts_or_none.Goals as goal

pub returns-then-index-len : goal.returns-then-index-len
returns-then-index-len c = sym (no_parts c.args.classes.now c.args.class (omega (arith, c.if-index-len.true, c.index.ensures, c.len.ensures.len)))

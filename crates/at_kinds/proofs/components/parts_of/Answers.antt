use Rattle.std.proofs.Common.{◌≤◌, length, sym, arith}
use Rattle.at_kinds.proofs.Accessing.{no_parts}
use Rattle.at_kinds.proofs.components.parts_of.Goals as goal

pub returns-else-index-len : goal.returns-else-index-len
returns-else-index-len c =
    let past : length c.args.classes.now ≤ c.args.class = omega (arith, c.index.ensures, c.len.ensures.len, c.if-index-len.false) in
    sym (no_parts c.args.classes.now c.args.class past)

use Rattle.std.proofs.Common.{arith}
use Rattle.at_rules.proofs.Counting.{within_names}
use Rattle.at_rules.proofs.counted.counted_in.Goals as goal

pub returns : goal.returns
returns c = λ n name count is.
    c.loop-number.invariant n name count (omega (
      arith,
      within_names c.args.names.now.keys n name count is,
      c.loop-number-test.false,
      c.loop-number.auto.number-end,
      c.len-number-end.ensures.len,
    )) is

use Rattle.std.proofs.Common.{arith}
use Rattle.at_start.proofs.Slashing.{more_blanks, no_more_blanks}
use Rattle.at_start.proofs.slashes.put_blanks.Goals as goal

pub returns-clause-bytes : goal.returns-clause-bytes
returns-clause-bytes c = no_more_blanks c.args.found.now c.loop-slashed.slashed-index _ _ (omega arith) c.loop-slashed.invariant.0

pub loop-slashed-preserved : goal.loop-slashed-preserved
loop-slashed-preserved c = (
  more_blanks c.args.found.now c.loop-slashed.slashed-index _ _ _ _ _ (omega arith) c.blank.ensures.bytes c.blank-in-loop-slashed.ensures.bytes
      c.loop-slashed.invariant.0,
  λ utf8. c.blank-in-loop-slashed.ensures.utf8 (c.blank.ensures.utf8 (c.loop-slashed.invariant.1 utf8)),
)

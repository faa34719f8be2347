use Rattle.at_cache.proofs.Common.{arith}
use Rattle.at_cache.proofs.of_cut.Seeing.{held_none}
use Rattle.at_cache.proofs.keep_recorded.kept_among.Goals as goal

pub overflow_add-kept : goal.overflow_add-kept
overflow_add-kept c = omega (arith, c.well_formed.0.0, c.loop-standing.invariant.1, c.loop-standing-test.true)

pub returns : goal.returns
returns c = let none = held_none c.args.standings.now c.loop-standing.standing-index (omega (arith, c.loop-standing-test.false)) in
    let all = c.loop-standing.invariant.0 in
    omega (arith, none, all)

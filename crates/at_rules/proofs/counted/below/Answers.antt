use Rattle.std.proofs.Common.{sym, ◌∙◌, arith}
use Rattle.at_rules.proofs.Counting.{found_there, none_below}
use Rattle.at_rules.proofs.counted.below.Goals as goal

pub returns-then-is_there : goal.returns-then-is_there
returns-then-is_there c = sym (found_there c.args.names.now.keys c.requires.distinct c.args.name.now c.args.count
    c.loop-number.number (sym c.is_there.ensures ∙ c.if-is_there.true))

pub returns : goal.returns
returns c = sym (none_below c.args.names.now.keys c.args.name.now c.args.count (λ n less. c.loop-number.invariant n
    (omega (arith, less, c.requires.known, c.loop-number-test.false, c.loop-number.auto.number-end))))

use Rattle.std.proofs.Common.{arith, sym, ◌∙◌}
use Rattle.at_typing.proofs.LongTexts.{among_more, among_here, among_none}
use Rattle.at_typing.proofs.checks.limits.+long.Goals as goal

pub long_text_among-returns-in-Some : goal.long_text_among-returns-in-Some
long_text_among-returns-in-Some t c =
    sym (among_here c.args.arguments.now c.loop-argument.argument-index c.argument-item.result _ (omega arith)
    c.argument-item.is (sym c.long_text.ensures ∙ c.in-Some.is) c.loop-argument.invariant)

pub long_text_among-loop-argument-preserved : goal.long_text_among-loop-argument-preserved
long_text_among-loop-argument-preserved t c =
    among_more c.args.arguments.now c.loop-argument.argument-index c.argument-item.result (omega arith)
    c.argument-item.is (sym c.long_text.ensures ∙ c.in_default.is) c.loop-argument.invariant

pub long_text_among-returns : goal.long_text_among-returns
long_text_among-returns t c = sym (among_none c.args.arguments.now c.loop-argument.argument-index (omega arith) c.loop-argument.invariant)

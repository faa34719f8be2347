use Rattle.std.proofs.Common.{◌≡◌, drop}
use Rattle.at_typing.proofs.LongTexts.{among}
use Rattle.at_typing.proofs.checks.limits.+long.Given as goal

abbrev pub invariant-long_text_among-loop-argument : goal.invariant-long_text_among-loop-argument
invariant-long_text_among-loop-argument l = among l.arguments ≡ among (drop l.argument-index l.arguments)

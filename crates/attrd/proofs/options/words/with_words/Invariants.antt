use Rattle.std.proofs.Common.{◌≡◌, drop, map}
use Rattle.clap.specs.Words.{app_of}
use Rattle.attrd.specs.CommandLine.{rule, with_words}
use Rattle.attrd.proofs.options.words.with_words.Given as goal

-- what is left makes of the command so far what all made of it
abbrev pub invariant-loop-word : goal.invariant-loop-word
invariant-loop-word l = with_words (app_of l.command) (map rule (drop l.word-index l.words)) ≡ with_words (app_of l.fn.command) (map rule l.fn.words)

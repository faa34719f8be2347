use Rattle.std.proofs.Common.{◌≡◌}
use denote.Text.{Utf8}
use denote.Shadow.{shadow}
use Rattle.std.specs.Str.Iter.{chars_rest}
use Rattle.at_text.proofs.Fronts.{Passed}
use Rattle.at_tree.specs.Runs.{takes}
use Rattle.at_tree.proofs.runs.past.Given as goal

abbrev pub invariant-loop-c : goal.invariant-loop-c
invariant-loop-c l = shadow (Utf8 l.rest) × Passed (takes l.run) l.text l.rest × (chars_rest l.chars ≡ l.rest)

use Rattle.std.proofs.Common.{◌≡◌, ◌++◌, ◌∷◌, length}
use Rattle.std.specs.Prelude.{string_bytes}
use Rattle.std.specs.List.{flat_map}
use Rattle.std.specs.Str.Iter.{chars_rest}
use Rattle.at_model.specs.Texts.{escaped}
use Rattle.at_text.proofs.quoted.read_quoted.Given as goal

abbrev pub invariant-loop-value : goal.invariant-loop-value
invariant-loop-value l = l.text ≡ 34 ∷ (flat_map escaped (string_bytes l.value) ++ chars_rest l.chars)

abbrev pub decreases-loop-value : goal.decreases-loop-value
decreases-loop-value l = length (chars_rest l.chars)

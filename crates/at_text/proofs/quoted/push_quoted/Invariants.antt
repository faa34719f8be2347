use Rattle.std.proofs.Common.{◌≡◌, ◌≤◌, ◌++◌, ◌∷◌, take, vec_capacity}
use Rattle.std.specs.List.{flat_map}
use Rattle.at_model.specs.Texts.{escaped}
use Rattle.at_text.proofs.quoted.push_quoted.Given as goal

abbrev pub invariant-loop-byte : goal.invariant-loop-byte
invariant-loop-byte l = (l.out.items ≡ l.fn.out.items ++ 34 ∷ flat_map escaped (take l.byte-index l.byte-items)) × (vec_capacity l.fn.out ≤ vec_capacity l.out)

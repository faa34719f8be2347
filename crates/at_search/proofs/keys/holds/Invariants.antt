use Rattle.std.proofs.Common.{take}
use Rattle.at_model.specs.Meaning.{Among}
use Rattle.at_search.proofs.keys.holds.Given as goal

abbrev pub invariant-loop-key : goal.invariant-loop-key
invariant-loop-key g l = Among l.inst (take l.key-index l.keys) → ⊥

use Rattle.std.proofs.Common.{◌≡◌, ℕ, List, take}
use Rattle.std.specs.List.{list_any}
use Rattle.at_start.specs.Overloading.{is_declared_by}
use Rattle.at_start.specs.Pairs.{has_pair}
use Rattle.at_start.proofs.overloaded.pairs.pairs_of.Given as goal

-- those in front are there
abbrev pub invariant-loop-one : goal.invariant-loop-one
invariant-loop-one l = (name : List ℕ) (count : ℕ) → has_pair l.pairs name count ≡ list_any (is_declared_by name count) (take l.one-index l.counted)

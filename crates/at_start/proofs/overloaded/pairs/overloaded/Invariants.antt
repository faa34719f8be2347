use Rattle.std.proofs.Common.{◌≡◌, ◌&&◌, ℕ, List, take}
use Rattle.std.specs.List.{list_any}
use Rattle.at_start.specs.Overloading.{is_declared_by}
use Rattle.at_start.specs.Pairs.{has_pair, needs_in}
use Rattle.at_start.proofs.overloaded.pairs.overloaded.Given as goal

-- those in front that need their number are there
abbrev pub invariant-loop-one : goal.invariant-loop-one
invariant-loop-one l = (name : List ℕ) (count : ℕ)
    → has_pair l.found name count ≡ list_any (λ d. is_declared_by name count d && needs_in l.classes l.all d) (take l.one-index l.counted)

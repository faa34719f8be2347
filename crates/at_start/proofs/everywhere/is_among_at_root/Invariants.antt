use Rattle.std.proofs.Common.{◌≡◌, drop}
use Rattle.std.specs.List.{list_any}
use Rattle.at_start.specs.Spreading.{is_head_at_root}
use Rattle.at_start.proofs.everywhere.is_among_at_root.Given as goal

-- none before is such
abbrev pub invariant-loop-head : goal.invariant-loop-head
invariant-loop-head l =
    list_any (is_head_at_root l.classes l.name) l.heads ≡ list_any (is_head_at_root l.classes l.name) (drop l.head-index l.heads)

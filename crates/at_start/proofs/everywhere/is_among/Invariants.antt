use Rattle.std.proofs.Common.{◌≡◌, drop}
use Rattle.std.specs.List.{list_any}
use Rattle.at_start.specs.Spreading.{is_head}
use Rattle.at_start.proofs.everywhere.is_among.Given as goal

-- none before is such
abbrev pub invariant-loop-head : goal.invariant-loop-head
invariant-loop-head l = list_any (is_head l.class l.name) l.heads ≡ list_any (is_head l.class l.name) (drop l.head-index l.heads)

use Rattle.std.proofs.Common.{◌≡◌, ◌+◌, take, length, map}
use Rattle.at_typing.specs.Declaring.{attributes, limit_at, max_attributes}
use Rattle.at_typing.specs.Numbering.{numbered_view}
use Rattle.at_typing.proofs.checks.limits.over_limit.Given as goal
use Rattle.at_class.proofs.Firsts.{NoneBefore}

abbrev pub invariant-loop-numbered : goal.invariant-loop-numbered
invariant-loop-numbered l =
    NoneBefore (limit_at (map numbered_view l.declared)) numbered_view l.declared l.numbered-index
    × (l.left + length (attributes (take l.numbered-index (map numbered_view l.declared))) ≡ max_attributes)

use Rattle.std.proofs.Common.{◌≡◌, map, take}
use Rattle.at_class.specs.Fixing.{fixed_view}
use Rattle.at_start.proofs.constants.fixing.are_same.Given as goal

-- those in front are the same
abbrev pub invariant-loop-i : goal.invariant-loop-i
invariant-loop-i l = map fixed_view (take l.i l.fixes) ≡ map fixed_view (take l.i l.others)

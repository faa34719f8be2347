use Rattle.std.proofs.Common.{◌≡◌, length}
use Rattle.std.specs.Map.{keys_of}
use Rattle.at_rules.specs.Dispatch.{found_up, IsRight}
use Rattle.at_rules.proofs.dispatch.Dispatch.row.Given as goal

abbrev pub invariant-loop-number : goal.invariant-loop-number
invariant-loop-number g l = (length l.row.items ≡ l.number) × IsRight (found_up l.precedence (keys_of l.keys.entries) l.classes l.class) l.row.items

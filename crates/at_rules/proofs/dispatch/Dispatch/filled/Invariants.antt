use Rattle.std.specs.Map.{keys_of}
use Rattle.at_rules.specs.Dispatch.{found_up, AreRight}
use Rattle.at_rules.proofs.dispatch.Dispatch.filled.Given as goal

abbrev pub invariant-loop-pass : goal.invariant-loop-pass
invariant-loop-pass g l = AreRight (found_up l.precedence (keys_of l.keys.entries) l.classes) l.table.rows.items

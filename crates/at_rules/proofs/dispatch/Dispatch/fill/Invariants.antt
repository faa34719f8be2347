use Rattle.std.specs.Map.{keys_of}
use Rattle.at_rules.specs.Dispatch.{found_up, AreRight}
use Rattle.at_rules.proofs.dispatch.Dispatch.fill.Given as goal

abbrev pub invariant-loop-position : goal.invariant-loop-position
invariant-loop-position g l = AreRight (found_up l.precedence (keys_of l.keys.entries) l.classes) l.self.rows.items

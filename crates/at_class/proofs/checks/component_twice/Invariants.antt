use Rattle.std.specs.Prelude.{length}
use Rattle.at_model.specs.Classes.{Classes}
use Rattle.at_class.specs.Checks.{twice_at}
use Rattle.at_class.specs.Grammar.{declaration_view}
use Rattle.at_class.specs.Ways.{AreFound}
use Rattle.at_class.proofs.Firsts.{NoneBefore}
use Rattle.at_class.proofs.checks.component_twice.Given as goal

abbrev pub invariant-loop-position : goal.invariant-loop-position
invariant-loop-position l = (classes : Classes) → AreFound classes l.found (length l.found) → NoneBefore (twice_at classes) declaration_view l.declarations l.position

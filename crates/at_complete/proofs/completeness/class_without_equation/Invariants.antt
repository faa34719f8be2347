use Rattle.at_complete.specs.Completing.{LacksOwn}
use Rattle.at_complete.proofs.Attributes.{AreClear}
use Rattle.at_complete.proofs.completeness.class_without_equation.Given as goal

abbrev pub invariant-loop-position : goal.invariant-loop-position
invariant-loop-position l = AreClear (LacksOwn l.rules) l.position

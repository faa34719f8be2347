use Rattle.at_complete.specs.Completing.{LacksInherited, MeetExposed}
use Rattle.at_complete.proofs.Attributes.{AreClear}
use Rattle.at_complete.proofs.exposure.inherited_without_equation.Given as goal

abbrev pub invariant-loop-position : goal.invariant-loop-position
invariant-loop-position l = AreClear (LacksInherited l.rules) l.position × MeetExposed l.rules l.exposed

use Rattle.at_class.specs.Climbs.{IsResting}
use Rattle.at_class.specs.Checks.{circle_at}
use Rattle.at_class.specs.View.{classes_view}
use Rattle.at_class.specs.Grammar.{declaration_view}
use Rattle.at_class.proofs.Firsts.{NoneBefore}
use Rattle.at_class.proofs.checks.superclass_circle.Given as goal

abbrev pub invariant-loop-position : goal.invariant-loop-position
invariant-loop-position l = NoneBefore (circle_at (classes_view l.classes)) declaration_view l.declarations l.position × IsResting (classes_view l.classes) l.circles

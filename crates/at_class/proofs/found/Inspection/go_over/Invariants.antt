use Rattle.at_class.specs.View.{classes_view}
use Rattle.at_class.specs.Ways.{Knows}
use Rattle.at_class.proofs.found.Inspection.go_over.Given as goal

abbrev pub invariant-loop-class : goal.invariant-loop-class
invariant-loop-class l = Knows (classes_view l.classes) l.self.way l.self.found.items

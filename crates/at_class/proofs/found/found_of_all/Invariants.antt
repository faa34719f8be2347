use Rattle.at_class.specs.View.{classes_view}
use Rattle.at_class.specs.Ways.{AreFound, Knows}
use Rattle.at_class.proofs.found.found_of_all.Given as goal

abbrev pub invariant-loop-position : goal.invariant-loop-position
invariant-loop-position l = Knows (classes_view l.classes) l.inspection.way l.inspection.found.items × AreFound (classes_view l.classes) l.all.items l.position

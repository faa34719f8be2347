use Rattle.std.specs.Prelude.{length}
use Rattle.at_class.specs.View.{classes_view}
use Rattle.at_class.specs.Ways.{AreLed, IsWay}
use Rattle.at_class.proofs.way.Way.leave_to.Given as goal

abbrev pub invariant-loop-class : goal.invariant-loop-class
invariant-loop-class l = AreLed (classes_view l.classes) → IsWay (classes_view l.classes) l.fn.self.levels.items l.fn.self.taken → IsWay (classes_view l.classes) l.self.levels.items l.self.taken

abbrev pub decreases-loop-class : goal.decreases-loop-class
decreases-loop-class l = length l.self.levels.items

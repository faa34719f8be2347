use Rattle.at_class.specs.Climbs.{Climbing, is_met, left_by}
use Rattle.at_class.specs.View.{classes_view}
use Rattle.at_class.proofs.circles.Circles.climb.Given as goal

abbrev pub invariant-loop-next : goal.invariant-loop-next
invariant-loop-next l = Climbing (classes_view l.classes) l.fn.from l.self.marks.items l.self.way.items l.next

abbrev pub decreases-loop-next : goal.decreases-loop-next
decreases-loop-next l = left_by is_met l.self.marks.items

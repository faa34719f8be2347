use Rattle.std.specs.Prelude.{ℕ}
use Rattle.at_class.specs.Climbs.{Climbed, GoingRound, is_settled, left_by}
use Rattle.at_class.specs.View.{classes_view}
use Rattle.at_class.proofs.circles.Circles.go_round.Given as goal

abbrev pub invariant-loop-next : goal.invariant-loop-next
invariant-loop-next l = (from : ℕ) → Climbed (classes_view l.classes) from l.fn.self.marks.items l.fn.self.way.items
    l.fn.end → GoingRound (classes_view l.classes) from l.self.marks.items l.self.way.items l.fn.end l.next

abbrev pub decreases-loop-next : goal.decreases-loop-next
decreases-loop-next l = left_by is_settled l.self.marks.items

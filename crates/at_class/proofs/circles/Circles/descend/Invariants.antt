use Rattle.std.specs.Prelude.{ℕ, length}
use Rattle.at_model.specs.Classes.{Classes}
use Rattle.at_class.specs.Climbs.{Descending}
use Rattle.at_class.proofs.circles.Circles.descend.Given as goal

abbrev pub invariant-loop-class : goal.invariant-loop-class
invariant-loop-class l = (classes : Classes) (from : ℕ) → Descending classes from l.fn.self.marks.items l.fn.self.way.items → Descending classes from l.self.marks.items l.self.way.items

abbrev pub decreases-loop-class : goal.decreases-loop-class
decreases-loop-class l = length l.self.way.items

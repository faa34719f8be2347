use Rattle.std.specs.Prelude.{◌≡◌, replicate}
use Rattle.at_class.specs.declared.circles.Mark.TheVariants.{Unmet}
use Rattle.at_class.proofs.circles.unmet.Given as goal

abbrev pub invariant-loop-position : goal.invariant-loop-position
invariant-loop-position l = l.marks.items ≡ replicate l.position Unmet

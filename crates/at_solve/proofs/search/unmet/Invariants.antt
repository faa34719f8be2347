use Rattle.std.specs.Prelude.{◌≡◌, replicate}
use Rattle.at_solve.specs.declared.search.Mark.TheVariants.{Unmet}
use Rattle.at_solve.proofs.search.unmet.Given as goal

abbrev pub invariant-loop-position : goal.invariant-loop-position
invariant-loop-position l = l.marks.items ≡ replicate l.position Unmet

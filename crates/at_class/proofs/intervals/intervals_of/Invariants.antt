use Rattle.std.specs.Prelude.{◌≡◌, length}
use Rattle.at_class.specs.View.{classes_view}
use Rattle.at_class.specs.Intervals.{IsNumbering}
use Rattle.at_class.proofs.intervals.intervals_of.Given as goal

abbrev pub invariant-loop-number : goal.invariant-loop-number
invariant-loop-number l = IsNumbering (classes_view l.classes) l.number l.numbering × (l.numbering.end ≡ length l.class-items)

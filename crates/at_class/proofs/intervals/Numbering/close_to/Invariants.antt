use Rattle.std.specs.Prelude.{◌≡◌}
use Rattle.at_class.specs.View.{classes_view}
use Rattle.at_class.specs.Intervals.{IsNumbering}
use Rattle.at_class.proofs.intervals.Numbering.close_to.Given as goal

abbrev pub invariant-loop-step : goal.invariant-loop-step
invariant-loop-step l = IsNumbering (classes_view l.classes) l.number l.self × (l.self.end ≡ l.fn.self.end)

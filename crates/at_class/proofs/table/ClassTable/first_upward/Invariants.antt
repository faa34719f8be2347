use Rattle.std.proofs.Common.{length, ◌-◌, Some}
use Rattle.at_class.proofs.FirstUpward.{Finds}
use Rattle.at_class.proofs.table.ClassTable.first_upward.Given as goal

abbrev pub invariant-loop-step : goal.invariant-loop-step
invariant-loop-step g l =
    (found : _) → Finds (goal.F-post g l.answer) l.self (length l.self - l.step) l.next found
    → Finds (goal.F-post g l.answer) l.self (length l.self) (Some l.fn.class) found

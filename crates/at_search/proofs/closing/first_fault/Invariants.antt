use Rattle.std.specs.Prelude.{ℕ}
use Rattle.at_model.specs.Run.{Contents}
use Rattle.at_model.specs.of_fixpoints.Formulas.{Forms}
use Rattle.at_search.specs.Recorded.{AreFacts, AreWhole, MetFrom, seen_by, todo_of, work_left}
use Rattle.at_search.specs.LedTo.{IsFaultless}
use Rattle.at_search.proofs.closing.first_fault.Given as goal

abbrev pub invariant-loop-next : goal.invariant-loop-next
invariant-loop-next g l = ((look : Contents ℕ) (forms : Forms ℕ) → AreFacts look forms l.ended.entries →
    AreWhole look forms (g.K.Known.value_of l.known) → MetFrom look forms l.inst (seen_by l.search) (todo_of l.search) l.search.fault)
    × IsFaultless (g.K.Known.value_of l.known) l.ended.entries l.inst (seen_by l.search) (todo_of l.search)

abbrev pub decreases-loop-next : goal.decreases-loop-next
decreases-loop-next g l = work_left l.ended.entries (seen_by l.search) (todo_of l.search)

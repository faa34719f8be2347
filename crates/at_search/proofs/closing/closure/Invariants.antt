use Rattle.at_search.specs.LedTo.{IsGathering}
use Rattle.at_search.specs.Recorded.{seen_by, todo_of, work_left}
use Rattle.at_search.proofs.closing.closure.Given as goal

abbrev pub invariant-loop-next : goal.invariant-loop-next
invariant-loop-next g l = IsGathering (g.K.Known.value_of l.known) l.ended.entries l.inst (seen_by l.search) (todo_of l.search)

abbrev pub decreases-loop-next : goal.decreases-loop-next
decreases-loop-next g l = work_left l.ended.entries (seen_by l.search) (todo_of l.search)

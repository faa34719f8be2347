use Rattle.at_cache.proofs.of_cut.Passing.{over_both}
use Rattle.at_cache.proofs.forgetting.doom.Goals as goal

pub returns-in-Trace : goal.returns-in-Trace
returns-in-Trace c = rw c.in-Trace.is (c.lose_trace.ensures c.args.first)

pub returns-in-Value : goal.returns-in-Value
returns-in-Value c = rw c.in-Value.is c.mark.ensures

pub returns-in-Both : goal.returns-in-Both
returns-in-Both c = rw c.in-Both.is (over_both (c.lose_trace-in-Both.ensures c.args.first) c.mark-in-Both.ensures)

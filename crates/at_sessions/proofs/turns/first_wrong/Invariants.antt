use Rattle.at_start.specs.Starts.{IsReady}
use Rattle.at_sessions.proofs.turns.first_wrong.Given as goal

abbrev pub invariant-loop-at : goal.invariant-loop-at
invariant-loop-at g l = IsReady l.engine

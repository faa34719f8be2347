use Rattle.at_start.specs.Starts.{IsReady}
use Rattle.at_sessions.proofs.turns.post.Given as goal

abbrev pub invariant-loop-i : goal.invariant-loop-i
invariant-loop-i g l = IsReady l.engine

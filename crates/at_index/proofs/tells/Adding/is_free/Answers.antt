use Rattle.at_index.proofs.of_runs.Over.{on_nowhere}
use Rattle.at_index.proofs.tells.Adding.is_free.Goals as goal

pub returns-then-seat-eq0-clause-free : goal.returns-then-seat-eq0-clause-free
returns-then-seat-eq0-clause-free g c h = on_nowhere c.args.runs.now.items c.args.seat c.if-seat-eq0.true

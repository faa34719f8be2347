use Rattle.std.proofs.Common.{◌≤◌}
use Rattle.at_solve.specs.Spreading.{Spreads}
use Rattle.at_solve.proofs.spreading.Spread.new.Given as goal

abbrev pub invariant-loop-position : goal.invariant-loop-position
invariant-loop-position l = Spreads l.system (λ u. l.position ≤ u) l.spread.known.items l.spread.waiting.items

use Rattle.std.proofs.Common.{◌≡◌, ℕ, ◌+◌, length}
use Rattle.at_solve.specs.Spreading.{Spreads, unknown}
use Rattle.at_solve.proofs.spreading.derived.Given as goal

abbrev pub invariant-loop-position : goal.invariant-loop-position
invariant-loop-position l = Spreads l.system (λ u. ⊥) l.spread.known.items l.spread.waiting.items

abbrev pub decreases-loop-position : goal.decreases-loop-position
decreases-loop-position l = unknown l.spread.known.items + (unknown l.spread.known.items + length l.spread.waiting.items)

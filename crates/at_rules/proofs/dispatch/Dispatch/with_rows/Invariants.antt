use Rattle.std.proofs.Common.{◌≡◌, ℕ, None}
use Rattle.at_rules.specs.Dispatch.{cell_at}
use Rattle.at_rules.proofs.dispatch.Dispatch.with_rows.Given as goal

abbrev pub invariant-loop-class : goal.invariant-loop-class
invariant-loop-class l = (c k : ℕ) → cell_at l.rows.items c k ≡ None

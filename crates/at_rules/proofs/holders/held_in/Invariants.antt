use Rattle.std.proofs.Common.{◌≡◌, ℕ, take}
use Rattle.std.specs.Map.{keys_of}
use Rattle.at_rules.specs.Holding.{has_equation, is_held}
use Rattle.at_rules.proofs.holders.held_in.Given as goal

abbrev pub invariant-loop-position : goal.invariant-loop-position
invariant-loop-position l = (c n : ℕ) → has_equation (take l.position (keys_of l.inherited.entries)) c n ≡ is_held (keys_of l.held.entries) c n

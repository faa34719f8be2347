use Rattle.at_evict.proofs.Common.{◌≡◌, ℕ, [], slots_at}
use Rattle.at_evict.proofs.relinking.empty_lists.Given as goal

abbrev pub invariant-loop : goal.invariant-loop
invariant-loop l = (r : ℕ) → slots_at l.lists.items r ≡ []

use Rattle.at_evict.proofs.Common.{◌≡◌, ◌⊎◌, ℕ, Contains, take, edges_in, HasUser, into_of, is_told}
use Rattle.at_evict.proofs.refolding.Refolding.are_used.Given as goal

abbrev pub invariant-loop-target : goal.invariant-loop-target
invariant-loop-target l = (r : ℕ) → Contains (take l.target-index l.targets) r
    → (r ≡ l.slot) ⊎ HasUser (is_told l.self) (into_of l.self) (edges_in l.users) r

use Rattle.std.proofs.Common.{◌≡◌, ℕ, ◌<◌, []}
use Rattle.std.specs.Prelude.{false}
use Rattle.at_solve.specs.Searching.{Searches, is_unmet, mark_at}
use Rattle.at_solve.proofs.components.components_of.Given as goal

abbrev pub invariant-loop-node : goal.invariant-loop-node
invariant-loop-node l = record {
  searches : Searches l.edges (λ w. ⊥) l.search;
  groups : l.search.groups.items ≡ [];
  met : (u : ℕ) → u < l.node → is_unmet (mark_at l.search.marks.items u) ≡ false;
}

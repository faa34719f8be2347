use Rattle.std.proofs.Common.{◌≡◌}
use Rattle.std.specs.Prelude.{false}
use Rattle.at_solve.specs.Searching.{Searches, StayMet, is_unmet, mark_at, weight}
use Rattle.at_solve.proofs.search.Search.begin_at.Given as goal

abbrev pub invariant-loop-group : goal.invariant-loop-group
invariant-loop-group l = record {
  searches : Searches l.edges (λ w. ⊥) l.self;
  met : StayMet l.fn.self l.self;
  node : is_unmet (mark_at l.self.marks.items l.node) ≡ false;
}

abbrev pub decreases-loop-group : goal.decreases-loop-group
decreases-loop-group l = weight l.edges l.self

use Rattle.std.proofs.Common.{◌∙◌, ◌≡◌, inl, ap, sym}
use Rattle.at_solve.proofs.Stepping.{resting, with_next, mark_there, unmet_off}
use Rattle.at_solve.proofs.search.Search.begin_at.Goals as goal

pub enter-requires-clause-searches : goal.enter-requires-clause-searches
enter-requires-clause-searches c = with_next c.args.edges.now c.args.self.now (λ w. w ≡ c.args.node) c.requires.searches

pub enter-requires-clause-lead : goal.enter-requires-clause-lead
enter-requires-clause-lead c = inl (resting c.args.edges.now (λ w. ⊥) c.args.self.now c.requires.searches c.requires.groups)

pub loop-group-init : goal.loop-group-init
loop-group-init c = record { searches = c.in_ok-enter.ensures.searches; met = c.in_ok-enter.ensures.met; node = c.in_ok-enter.ensures.node }

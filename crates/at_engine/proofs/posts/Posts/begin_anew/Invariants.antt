use Rattle.std.proofs.Common.{◌≡◌}
use Rattle.at_store.specs.Shown.{path}
use Rattle.at_engine.proofs.of_turns.Beginning.{HaveBegunAnew}
use Rattle.at_engine.proofs.posts.Posts.begin_anew.Given as goal

-- the questions before have begun anew
abbrev pub invariant-loop-position : goal.invariant-loop-position
invariant-loop-position l = (l.self.count ≡ l.initial.self.count) × HaveBegunAnew (path l.there.store.now) l.position l.initial.self.items.items l.self.items.items

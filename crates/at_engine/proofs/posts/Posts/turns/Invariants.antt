use Rattle.std.proofs.Common.{◌≡◌, drop, find, nat_eq}
use Rattle.at_engine.specs.declared.posts.Posted.{Posted}
use Rattle.at_engine.proofs.posts.Posts.turns.Given as goal

-- none of the questions before has the number
abbrev pub invariant-loop-posted : goal.invariant-loop-posted
invariant-loop-posted l = find (λ (p : Posted). nat_eq l.number p.number) l.fn.self.items.items ≡ find (λ (p : Posted). nat_eq l.number p.number) (drop l.posted-index l.posted-items)

use Rattle.std.proofs.Common.{take}
use Rattle.std.specs.Prelude.{nat_eq}
use Rattle.std.specs.List.{list_any}
use Rattle.at_complete.specs.Walks.{MeetsFrom}
use Rattle.at_complete.proofs.walk.Walk.meet_all.Given as goal

abbrev pub invariant-loop-class : goal.invariant-loop-class
invariant-loop-class l = MeetsFrom (λ c. list_any (nat_eq c) (take l.class-index l.classes)) l.fn.self l.self

use Rattle.std.proofs.Common.{length, []}
use Rattle.std.specs.Prelude.{false, ◌&&◌, nat_lt, replicate}
use Rattle.at_complete.specs.Completing.{is_met_concrete}
use Rattle.at_complete.specs.Walks.{Meets}
use Rattle.at_complete.proofs.exposure.concrete_among.Given as goal

abbrev pub invariant-loop-position : goal.invariant-loop-position
invariant-loop-position l = Meets (λ c. nat_lt c l.position && is_met_concrete l.classes l.exposed.met.items c) (replicate (length l.classes) false) l.walk.met.items [] l.walk.pending.items

use Rattle.at_model.specs.Rules.{Rules}
use Rattle.at_seek.specs.Finding.{IsOver, IsOwnTurned}
use Rattle.at_seek.proofs.Entries.{TurnedTo}
use Rattle.at_seek.proofs.searches.turn_own.Given as goal

abbrev pub invariant-loop-position : goal.invariant-loop-position
invariant-loop-position l = (rules : Rules) → IsOver rules l.finder → TurnedTo (IsOwnTurned rules) l.position l.initial.own.entries l.own.entries

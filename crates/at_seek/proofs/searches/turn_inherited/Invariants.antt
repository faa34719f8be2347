use Rattle.std.proofs.Common.{ℕ, List}
use Rattle.at_model.specs.Kinds.{AreInheritedAlike}
use Rattle.at_model.specs.Rules.{Rules}
use Rattle.at_seek.specs.Finding.{AreNamed, IsInheritedTurned, IsOver}
use Rattle.at_seek.proofs.Entries.{TurnedTo}
use Rattle.at_seek.proofs.searches.turn_inherited.Given as goal

abbrev pub invariant-loop-position : goal.invariant-loop-position
invariant-loop-position l = (rules : Rules) (texts : ℕ → List ℕ) → IsOver rules l.finder → AreInheritedAlike rules → AreNamed texts rules l.finder.attributes.now.entries →
    TurnedTo (IsInheritedTurned texts rules) l.position l.initial.inherited.entries l.inherited.entries

use Rattle.std.proofs.Common.{◌≡◌, ◌≤◌, ℕ, Bool, length, get_or}
use Rattle.at_model.specs.Rules.{Rules}
use Rattle.at_rules.specs.declared.body.Body.{Body}
use Rattle.at_seek.specs.Finding.{IsOver, kinds_in}
use Rattle.at_seek.proofs.Turned.{AreTurnedTo}
use Rattle.at_seek.proofs.finder.Finder.+turning.Given as goal

abbrev pub invariant-turn_all-loop-argument : goal.invariant-turn_all-loop-argument
invariant-turn_all-loop-argument l = ((rules : Rules) (h : Bool) → IsOver rules l.self
    → AreTurnedTo rules (kinds_in l.scope h) l.argument-index l.initial.argument-items l.argument-items)
    × (length l.argument-items ≡ length l.initial.argument-items)
    × ((k : ℕ) (d : Body) → l.argument-index ≤ k → get_or l.argument-items k d ≡ get_or l.initial.argument-items k d)

use Rattle.std.proofs.Common.{◌≡◌, ◌≤◌, length, map}
use Rattle.at_model.specs.Declarations.{classes_of}
use Rattle.at_model.specs.WellFormed.{IsHierarchy}
use Rattle.at_class.specs.Fixing.{fixed_as, fixed_view}
use Rattle.at_class.specs.Grammar.{grammar_view}
use Rattle.at_start.specs.Constants.{level}
use Rattle.at_start.specs.PlacedView.{placed_view}
use Rattle.at_start.proofs.constants.fixing.planted.Given as goal

-- these are the classes of that level, in which this is fixed
abbrev pub invariant-loop-step : goal.invariant-loop-step
invariant-loop-step l = (l.step ≤ length l.constants) × (l.classes ≡ level (grammar_view l.grammar) (map placed_view l.constants) l.step)
    × (l.classes ≡ fixed_as (map fixed_view l.fixed.items) (classes_of (grammar_view l.grammar))) × IsHierarchy l.classes

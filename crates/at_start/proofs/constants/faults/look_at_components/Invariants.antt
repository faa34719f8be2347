use Rattle.std.proofs.Common.{◌≡◌, None, map, drop}
use Rattle.at_model.specs.Declarations.{AreNamed}
use Rattle.at_class.specs.Grammar.{grammar_view, place_view}
use Rattle.at_start.specs.Constants.{additions}
use Rattle.at_start.specs.ConstantFaults.{first_breach, first_refusal, unnamed}
use Rattle.at_start.specs.PlacedView.{placed_view}
use Rattle.at_start.proofs.constants.faults.look_at_components.Given as goal

-- no rule is broken with those in front
abbrev pub invariant-loop-placed : goal.invariant-loop-placed
invariant-loop-placed l = AreNamed (grammar_view l.whole) × (first_refusal unnamed (map placed_view (drop l.placed-index l.constants)) ≡ None)
    × (first_breach (grammar_view l.fn.grammar) (additions (map place_view l.fn.marks) (grammar_view l.fn.grammar) (map placed_view l.constants))
    ≡ first_breach (grammar_view l.whole) (additions (map place_view l.fn.marks) (grammar_view l.fn.grammar) (map placed_view (drop l.placed-index l.constants))))

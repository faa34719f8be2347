use Rattle.std.proofs.Common.{◌≡◌, map, drop}
use Rattle.at_class.specs.Grammar.{grammar_view, place_view}
use Rattle.at_start.specs.ConstantFaults.{first_refusal, unlike}
use Rattle.at_start.specs.PlacedView.{placed_view}
use Rattle.at_start.proofs.constants.filling.look_at_kinds.Given as goal

-- none is refused in front
abbrev pub invariant-loop-placed : goal.invariant-loop-placed
invariant-loop-placed l = first_refusal (unlike (map place_view l.marks) (grammar_view l.grammar)) (map placed_view l.constants)
    ≡ first_refusal (unlike (map place_view l.marks) (grammar_view l.grammar)) (map placed_view (drop l.placed-index l.constants))

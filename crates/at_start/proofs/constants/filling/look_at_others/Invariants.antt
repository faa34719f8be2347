use Rattle.std.proofs.Common.{◌≡◌, [], map, drop, take}
use Rattle.at_class.specs.Grammar.{grammar_view, place_view}
use Rattle.at_start.specs.ConstantFaults.{first_again}
use Rattle.at_start.specs.PlacedView.{placed_view}
use Rattle.at_start.proofs.constants.filling.look_at_others.Given as goal

-- none in front fills what another one does
abbrev pub invariant-loop-i : goal.invariant-loop-i
invariant-loop-i l = first_again (map place_view l.marks) (grammar_view l.grammar) [] (map placed_view l.constants)
    ≡ first_again (map place_view l.marks) (grammar_view l.grammar) (map placed_view (take l.i l.constants)) (map placed_view (drop l.i l.constants))

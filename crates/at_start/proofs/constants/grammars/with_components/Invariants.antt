use Rattle.std.proofs.Common.{◌≡◌, map, drop}
use Rattle.at_class.specs.Grammar.{grammar_view, place_view}
use Rattle.at_start.specs.Constants.{additions, whole_grammar, with_components}
use Rattle.at_start.specs.PlacedView.{placed_view}
use Rattle.at_start.proofs.constants.grammars.with_components.Given as goal

-- the constants that are left are still to come
abbrev pub invariant-loop-placed : goal.invariant-loop-placed
invariant-loop-placed l = with_components (grammar_view l.whole) (additions (map place_view l.marks) (grammar_view l.fn.grammar) (map placed_view (drop l.placed-index l.constants)))
    ≡ whole_grammar (map place_view l.marks) (grammar_view l.fn.grammar) (map placed_view l.constants)

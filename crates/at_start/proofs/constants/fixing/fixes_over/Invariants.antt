use Rattle.std.proofs.Common.{◌≡◌, ◌++◌, map, drop}
use Rattle.at_class.specs.Fixing.{fixed_view}
use Rattle.at_class.specs.Grammar.{grammar_view}
use Rattle.at_start.specs.Constants.{fixes_over}
use Rattle.at_start.specs.PlacedView.{placed_view}
use Rattle.at_start.proofs.constants.fixing.fixes_over.Given as goal

-- what is fixed for the constants that are left is still to come
abbrev pub invariant-loop-placed : goal.invariant-loop-placed
invariant-loop-placed l = map fixed_view l.fixes.items ++ fixes_over l.below (grammar_view l.grammar) (map placed_view (drop l.placed-index l.constants))
    ≡ fixes_over l.below (grammar_view l.grammar) (map placed_view l.constants)

use Rattle.std.proofs.Common.{◌≡◌, map, drop}
use Rattle.at_model.specs.Declarations.{first_given}
use Rattle.at_class.specs.Grammar.{declaration_view, place_view}
use Rattle.at_start.specs.ConstantFaults.{first_empty}
use Rattle.at_start.specs.PlacedView.{placed_view}
use Rattle.at_start.proofs.constants.filling.look_at_classes.Given as goal

-- no component of the classes in front is left empty
abbrev pub invariant-loop-class : goal.invariant-loop-class
invariant-loop-class l = first_given (λ c d. first_empty (map place_view l.marks) (map placed_view l.constants) d) 0 (map declaration_view l.class-items)
    ≡ first_given (λ c d. first_empty (map place_view l.marks) (map placed_view l.constants) d) l.class-index (map declaration_view (drop l.class-index l.class-items))

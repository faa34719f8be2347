use Rattle.std.proofs.Common.{◌≡◌, map, drop, Some, None, if◌then◌else◌}
use Rattle.at_model.specs.Declarations.{PartDeclaration, first_given}
use Rattle.at_class.specs.Grammar.{declaration_view, part_declaration_view, place_view}
use Rattle.at_start.specs.ConstantFaults.{first_empty, is_empty}
use Rattle.at_start.specs.PlacedView.{placed_view}
use Rattle.at_start.proofs.constants.filling.first_empty.Given as goal

-- none of the components in front is left empty
abbrev pub invariant-loop-part : goal.invariant-loop-part
invariant-loop-part l = first_empty (map place_view l.marks) (map placed_view l.constants) (declaration_view l.class)
    ≡ first_given (λ i (p : PartDeclaration). if is_empty (map place_view l.marks) (map placed_view l.constants) (declaration_view l.class) p then Some p.at else None)
    l.part-index (map part_declaration_view (drop l.part-index l.part-items))

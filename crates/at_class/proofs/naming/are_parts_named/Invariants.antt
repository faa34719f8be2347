use Rattle.std.proofs.Common.{◌≡◌, map, take}
use Rattle.std.specs.Prelude.{All, true}
use Rattle.at_model.specs.Names.{is_name}
use Rattle.at_model.specs.Declarations.{PartDeclaration}
use Rattle.at_class.specs.Grammar.{part_declaration_view}
use Rattle.at_class.proofs.naming.are_parts_named.Given as goal

abbrev pub invariant-loop-part : goal.invariant-loop-part
invariant-loop-part l = All (λ (p : PartDeclaration). is_name p.name ≡ true) (map part_declaration_view (take l.part-index l.parts))

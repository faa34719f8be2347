use Rattle.std.proofs.Common.{◌≡◌, map, take}
use Rattle.at_model.specs.Declarations.{component_by}
use Rattle.at_class.specs.View.{part_view, named_in}
use Rattle.at_class.specs.Grammar.{part_declaration_view}
use Rattle.at_class.proofs.class.parts_declared.Given as goal

abbrev pub invariant-loop-part : goal.invariant-loop-part
invariant-loop-part l = map part_view l.parts.items ≡ map (component_by (named_in l.names.keys)) (map part_declaration_view (take l.part-index l.declared))

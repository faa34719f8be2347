use Rattle.std.proofs.Common.{◌≡◌, map, take}
use Rattle.at_class.specs.Grammar.{part_declaration_view}
use Rattle.at_start.proofs.constants.grammars.parts_copied.Given as goal

abbrev pub invariant-loop-part : goal.invariant-loop-part
invariant-loop-part l = map part_declaration_view l.copies.items ≡ map part_declaration_view (take l.part-index l.parts)

use Rattle.std.proofs.Common.{◌≡◌, map, take}
use Rattle.at_class.specs.Grammar.{declaration_view, place_view}
use Rattle.at_start.specs.Constants.{bare}
use Rattle.at_start.proofs.constants.grammars.bare.Given as goal

abbrev pub invariant-loop-class : goal.invariant-loop-class
invariant-loop-class l = map declaration_view l.classes.items ≡ bare (map place_view l.marks) (map declaration_view (take l.class-index l.class-items))

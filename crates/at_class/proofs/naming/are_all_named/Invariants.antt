use Rattle.std.proofs.Common.{map, take}
use Rattle.at_model.specs.Declarations.{AreNamed}
use Rattle.at_class.specs.Grammar.{declaration_view}
use Rattle.at_class.proofs.naming.are_all_named.Given as goal

abbrev pub invariant-loop-declaration : goal.invariant-loop-declaration
invariant-loop-declaration l = AreNamed (map declaration_view (take l.declaration-index l.declarations))

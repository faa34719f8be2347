use Rattle.std.proofs.Common.{◌≡◌, map, take}
use Rattle.at_model.specs.Declarations.{class_by}
use Rattle.at_class.specs.View.{class_view, named_in}
use Rattle.at_class.specs.Grammar.{declaration_view}
use Rattle.at_class.proofs.class.classes_declared.Given as goal

abbrev pub invariant-loop-declaration : goal.invariant-loop-declaration
invariant-loop-declaration l = map class_view l.classes.items ≡ map (class_by (named_in l.names.keys)) (map declaration_view (take l.declaration-index l.declarations))

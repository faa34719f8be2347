use Rattle.at_model.specs.Classes.{Classes}
use Rattle.at_typing.specs.AccessorNames.{HasNames}
use Rattle.at_typing.specs.Declaring.{accessor_at}
use Rattle.at_typing.specs.Numbering.{numbered_view}
use Rattle.at_typing.proofs.checks.accessor_names.Accessors.first_named.Given as goal
use Rattle.at_class.proofs.Firsts.{NoneBefore}

abbrev pub invariant-loop-numbered : goal.invariant-loop-numbered
invariant-loop-numbered l = (classes : Classes) → HasNames classes l.self → NoneBefore (accessor_at classes) numbered_view l.declared l.numbered-index

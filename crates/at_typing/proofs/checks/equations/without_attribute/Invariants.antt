use Rattle.std.proofs.Common.{map}
use Rattle.at_typing.specs.Declaring.{undeclared_at}
use Rattle.at_typing.specs.Numbering.{numbered_view}
use Rattle.at_typing.proofs.checks.equations.without_attribute.Given as goal
use Rattle.at_class.proofs.Firsts.{NoneBefore}

abbrev pub invariant-loop-numbered : goal.invariant-loop-numbered
invariant-loop-numbered l = NoneBefore (undeclared_at l.classes (map numbered_view l.declared)) numbered_view l.declared l.numbered-index

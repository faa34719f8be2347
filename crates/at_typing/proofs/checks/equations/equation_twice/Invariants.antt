use Rattle.std.proofs.Common.{take, map}
use Rattle.at_typing.specs.Declaring.{equation_at}
use Rattle.at_typing.specs.EquationKeys.{HasEquations}
use Rattle.at_typing.specs.Numbering.{numbered_view}
use Rattle.at_typing.proofs.checks.equations.equation_twice.Given as goal
use Rattle.at_class.proofs.Firsts.{NoneBefore}

abbrev pub invariant-loop-numbered : goal.invariant-loop-numbered
invariant-loop-numbered l = NoneBefore (equation_at (map numbered_view l.declared)) numbered_view l.declared l.numbered-index × HasEquations (take l.numbered-index l.declared) l.before

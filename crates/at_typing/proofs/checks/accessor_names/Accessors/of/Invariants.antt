use Rattle.at_typing.proofs.AccessorNaming.{HasLeft}
use Rattle.at_typing.proofs.checks.accessor_names.Accessors.of.Given as goal

abbrev pub invariant-loop-class : goal.invariant-loop-class
invariant-loop-class l = HasLeft l.classes l.class l.accessors

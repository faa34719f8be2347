use Rattle.at_class.specs.Checks.{unknown_at}
use Rattle.at_class.specs.View.{named_in}
use Rattle.at_class.specs.Grammar.{declaration_view}
use Rattle.at_class.proofs.Firsts.{NoneBefore}
use Rattle.at_class.proofs.checks.unknown_class.Given as goal

abbrev pub invariant-loop-declaration : goal.invariant-loop-declaration
invariant-loop-declaration l = NoneBefore (unknown_at (named_in l.names.keys)) declaration_view l.declarations l.declaration-index

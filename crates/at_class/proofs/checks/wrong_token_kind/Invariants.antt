use Rattle.at_class.specs.Checks.{kinds_at}
use Rattle.at_class.specs.Grammar.{declaration_view}
use Rattle.at_class.proofs.Firsts.{NoneBefore}
use Rattle.at_class.proofs.checks.wrong_token_kind.Given as goal

abbrev pub invariant-loop-declaration : goal.invariant-loop-declaration
invariant-loop-declaration l = NoneBefore kinds_at declaration_view l.declarations l.declaration-index

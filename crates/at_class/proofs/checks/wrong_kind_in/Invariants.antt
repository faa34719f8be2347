use Rattle.at_class.specs.Checks.{kind_at}
use Rattle.at_class.specs.Grammar.{part_declaration_view}
use Rattle.at_class.proofs.Firsts.{NoneBefore}
use Rattle.at_class.proofs.checks.wrong_kind_in.Given as goal

abbrev pub invariant-loop-part : goal.invariant-loop-part
invariant-loop-part l = NoneBefore kind_at part_declaration_view l.parts l.part-index

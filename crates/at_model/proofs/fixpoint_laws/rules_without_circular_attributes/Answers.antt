use Rattle.at_model.specs.Paths.{node_eq}
use Rattle.std.specs.Prelude.{nat_eq}
use Rattle.at_model.proofs.of_formulas.PlainRules.{by_plain_equation, rules_plain}
use Rattle.at_model.proofs.fixpoint_laws.rules_without_circular_attributes.Goals as goal

pub returns-clause-all : goal.returns-clause-all
returns-clause-all c = λ rules none. rules_plain rules node_eq none

pub returns-clause-each : goal.returns-clause-each
returns-clause-each c = λ rules i none. by_plain_equation rules nat_eq i none

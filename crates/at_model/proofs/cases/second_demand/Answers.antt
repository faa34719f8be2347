use Rattle.std.proofs.Common.{Some, codes, inl, refl}
use Rattle.at_model.specs.Classes.{chain}
use Rattle.at_model.specs.Run.{Ref}
use Rattle.at_model.specs.Meaning.{Finds, content, equations}
use Rattle.at_model.specs.Samples.{calc, calc_tree, left_of, of_node_with, statement}
use Rattle.at_model.proofs.Outcomes.{not_both}
use Rattle.at_model.proofs.cases.second_demand.Goals as goal

pub returns-clause-value : goal.returns-clause-value
unfolding chain
returns-clause-value c = (9, refl)

pub returns-clause-comes : goal.returns-clause-comes
unfolding chain
returns-clause-comes c = inl refl

pub returns-clause-no_circle : goal.returns-clause-no_circle
unfolding chain
returns-clause-no_circle c = λ j. not_both (content calc_tree) (equations calc) (of_node_with (left_of 1) 0 (codes "x")) j (Finds (Ref (Some (statement 0)))) (9, refl)

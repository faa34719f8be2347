use Rattle.std.proofs.Common.{refl}
use Rattle.at_model.specs.Classes.{chain}
use Rattle.at_model.specs.Declarations.{classes_of, no_class, class_twice, unknown_class, superclass_circle, token_kind, component_twice, over_limit, first_fault}
use Rattle.at_model.proofs.grammar_cases.classes_that_are_named.Goals as goal

pub returns-clause-parent : goal.returns-clause-parent
unfolding chain classes_of no_class class_twice unknown_class superclass_circle token_kind component_twice over_limit first_fault
returns-clause-parent c = refl

pub returns-clause-below : goal.returns-clause-below
unfolding chain classes_of no_class class_twice unknown_class superclass_circle token_kind component_twice over_limit first_fault
returns-clause-below c = refl

pub returns-clause-component : goal.returns-clause-component
unfolding chain classes_of no_class class_twice unknown_class superclass_circle token_kind component_twice over_limit first_fault
returns-clause-component c = refl

pub returns-clause-itself : goal.returns-clause-itself
unfolding chain classes_of no_class class_twice unknown_class superclass_circle token_kind component_twice over_limit first_fault
returns-clause-itself c = refl

pub returns-clause-token : goal.returns-clause-token
unfolding chain classes_of no_class class_twice unknown_class superclass_circle token_kind component_twice over_limit first_fault
returns-clause-token c = refl

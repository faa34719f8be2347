use Rattle.std.proofs.Common.{refl}
use Rattle.at_model.specs.Classes.{chain}
use Rattle.at_model.specs.Declarations.{classes_of, no_class, class_twice, unknown_class, superclass_circle, token_kind, component_twice, over_limit, first_fault}
use Rattle.at_model.proofs.grammar_cases.names_of_components.Goals as goal

pub returns-clause-twice : goal.returns-clause-twice
unfolding chain classes_of no_class class_twice unknown_class superclass_circle token_kind component_twice over_limit first_fault
returns-clause-twice c = refl

pub returns-clause-inherited : goal.returns-clause-inherited
unfolding chain classes_of no_class class_twice unknown_class superclass_circle token_kind component_twice over_limit first_fault
returns-clause-inherited c = refl

pub returns-clause-beside : goal.returns-clause-beside
unfolding chain classes_of no_class class_twice unknown_class superclass_circle token_kind component_twice over_limit first_fault
returns-clause-beside c = refl

pub returns-clause-number : goal.returns-clause-number
unfolding chain classes_of no_class class_twice unknown_class superclass_circle token_kind component_twice over_limit first_fault
returns-clause-number c = refl

pub returns-clause-list : goal.returns-clause-list
unfolding chain classes_of no_class class_twice unknown_class superclass_circle token_kind component_twice over_limit first_fault
returns-clause-list c = refl

pub returns-clause-plain : goal.returns-clause-plain
unfolding chain classes_of no_class class_twice unknown_class superclass_circle token_kind component_twice over_limit first_fault
returns-clause-plain c = refl

pub returns-clause-every : goal.returns-clause-every
unfolding chain classes_of no_class class_twice unknown_class superclass_circle token_kind component_twice over_limit first_fault
returns-clause-every c = refl

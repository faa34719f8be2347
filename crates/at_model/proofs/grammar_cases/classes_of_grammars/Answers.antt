use Rattle.std.proofs.Common.{refl}
use Rattle.at_model.specs.Classes.{chain}
use Rattle.at_model.specs.Declarations.{classes_of, no_class, class_twice, unknown_class, superclass_circle, token_kind, component_twice, over_limit, first_fault}
use Rattle.at_model.proofs.grammar_cases.classes_of_grammars.Goals as goal

pub returns-clause-none : goal.returns-clause-none
unfolding chain classes_of no_class class_twice unknown_class superclass_circle token_kind component_twice over_limit first_fault
returns-clause-none c = refl

pub returns-clause-one : goal.returns-clause-one
unfolding chain classes_of no_class class_twice unknown_class superclass_circle token_kind component_twice over_limit first_fault
returns-clause-one c = refl

pub returns-clause-twice : goal.returns-clause-twice
unfolding chain classes_of no_class class_twice unknown_class superclass_circle token_kind component_twice over_limit first_fault
returns-clause-twice c = refl

pub returns-clause-apart : goal.returns-clause-apart
unfolding chain classes_of no_class class_twice unknown_class superclass_circle token_kind component_twice over_limit first_fault
returns-clause-apart c = refl

pub returns-clause-predefined : goal.returns-clause-predefined
unfolding chain classes_of no_class class_twice unknown_class superclass_circle token_kind component_twice over_limit first_fault
returns-clause-predefined c = refl

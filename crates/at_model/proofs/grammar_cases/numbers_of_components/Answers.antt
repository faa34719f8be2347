use Rattle.std.proofs.Common.{refl}
use Rattle.at_model.specs.Classes.{chain}
use Rattle.at_model.specs.Declarations.{classes_of, no_class, class_twice, unknown_class, superclass_circle, token_kind, component_twice, over_limit, first_fault}
use Rattle.at_model.proofs.grammar_cases.numbers_of_components.Goals as goal

pub returns-clause-most : goal.returns-clause-most
unfolding chain classes_of no_class class_twice unknown_class superclass_circle token_kind component_twice over_limit first_fault
returns-clause-most c = refl

pub returns-clause-more : goal.returns-clause-more
unfolding chain classes_of no_class class_twice unknown_class superclass_circle token_kind component_twice over_limit first_fault
returns-clause-more c = refl

pub returns-clause-inherited : goal.returns-clause-inherited
unfolding chain classes_of no_class class_twice unknown_class superclass_circle token_kind component_twice over_limit first_fault
returns-clause-inherited c = refl

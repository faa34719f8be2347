use Rattle.std.proofs.Common.{refl}
use Rattle.at_model.specs.Classes.{chain}
use Rattle.at_model.specs.Declarations.{classes_of, no_class, class_twice, unknown_class, superclass_circle, token_kind, component_twice, over_limit, first_fault}
use Rattle.at_model.proofs.grammar_cases.kinds_of_tokens.Goals as goal

pub returns-clause-kinds : goal.returns-clause-kinds
unfolding chain classes_of no_class class_twice unknown_class superclass_circle token_kind component_twice over_limit first_fault
returns-clause-kinds c = refl

pub returns-clause-other : goal.returns-clause-other
unfolding chain classes_of no_class class_twice unknown_class superclass_circle token_kind component_twice over_limit first_fault
returns-clause-other c = refl

pub returns-clause-before : goal.returns-clause-before
unfolding chain classes_of no_class class_twice unknown_class superclass_circle token_kind component_twice over_limit first_fault
returns-clause-before c = refl

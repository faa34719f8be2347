use Rattle.at_model.proofs.GrammarKept.{some_class, classes_apart, classes_known, tokens_of_kinds}
use Rattle.at_model.proofs.GrammarClasses.{classes_below_others, components_apart, classes_few}
use Rattle.at_model.proofs.grammar_laws.each_test_says_its_rule.Goals as goal

pub returns-clause-no_class : goal.returns-clause-no_class
returns-clause-no_class c = some_class

pub returns-clause-class_twice : goal.returns-clause-class_twice
returns-clause-class_twice c = classes_apart

pub returns-clause-unknown_class : goal.returns-clause-unknown_class
returns-clause-unknown_class c = classes_known

pub returns-clause-superclass_circle : goal.returns-clause-superclass_circle
returns-clause-superclass_circle c = classes_below_others

pub returns-clause-token_kind : goal.returns-clause-token_kind
returns-clause-token_kind c = tokens_of_kinds

pub returns-clause-component_twice : goal.returns-clause-component_twice
returns-clause-component_twice c = components_apart

pub returns-clause-over_limit : goal.returns-clause-over_limit
returns-clause-over_limit c = classes_few

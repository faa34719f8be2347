use Rattle.at_typing.proofs.of_aspects.AttributesFew.{limits}
use Rattle.at_typing.proofs.of_aspects.NamesFree.{names_free}
use Rattle.at_typing.proofs.of_aspects.DeclaredApart.{declared_once}
use Rattle.at_typing.proofs.of_aspects.EquationsApart.{equations_declared, equations_once}
use Rattle.at_typing.proofs.of_aspects.MeaningsFound.{each_means}
use Rattle.at_typing.proofs.laws.each_test_says_its_rule.Goals as goal

pub returns-clause-limit : goal.returns-clause-limit
returns-clause-limit c = limits

pub returns-clause-name_of_accessor : goal.returns-clause-name_of_accessor
returns-clause-name_of_accessor c = names_free

pub returns-clause-attribute_twice : goal.returns-clause-attribute_twice
returns-clause-attribute_twice c = declared_once

pub returns-clause-without_attribute : goal.returns-clause-without_attribute
returns-clause-without_attribute c = equations_declared

pub returns-clause-equation_twice : goal.returns-clause-equation_twice
returns-clause-equation_twice c = equations_once

pub returns-clause-by_itself : goal.returns-clause-by_itself
returns-clause-by_itself c = each_means

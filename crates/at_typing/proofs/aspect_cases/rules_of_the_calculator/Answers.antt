use Rattle.at_typing.proofs.of_aspects.CalculatorBuilt.{calculator_means, calculator_built}
use Rattle.at_typing.proofs.aspect_cases.rules_of_the_calculator.Goals as goal

pub returns-clause-rules : goal.returns-clause-rules
returns-clause-rules c = calculator_means

pub returns-clause-accepted : goal.returns-clause-accepted
returns-clause-accepted c = calculator_built

use Rattle.at_model.proofs.Spreading.{led_valued, led_fault}
use Rattle.at_model.proofs.laws.outcomes_spread.Goals as goal

pub returns-clause-values : goal.returns-clause-values
returns-clause-values c = led_valued

pub returns-clause-faults : goal.returns-clause-faults
returns-clause-faults c = λ look equation i j k f. led_fault look equation i j f k

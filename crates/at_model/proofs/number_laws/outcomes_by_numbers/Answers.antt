use Rattle.at_model.proofs.Outcomes.{once, not_both, closes_at_one}
use Rattle.at_model.proofs.Spreading.{led_valued, led_fault}
use Rattle.at_model.proofs.FaultPlaces.{fault_place}
use Rattle.at_model.proofs.number_laws.outcomes_by_numbers.Goals as goal

pub returns-clause-one_outcome : goal.returns-clause-one_outcome
returns-clause-one_outcome c = once

pub returns-clause-outcome_or_circle : goal.returns-clause-outcome_or_circle
returns-clause-outcome_or_circle c = not_both

pub returns-clause-one_circle : goal.returns-clause-one_circle
returns-clause-one_circle c = closes_at_one

pub returns-clause-values : goal.returns-clause-values
returns-clause-values c = led_valued

pub returns-clause-faults : goal.returns-clause-faults
returns-clause-faults c = λ look equation i j k f. led_fault look equation i j f k

pub returns-clause-places : goal.returns-clause-places
returns-clause-places c = λ look equation q i f. fault_place look equation i f q

use Rattle.at_model.proofs.of_formulas.RingCases.{twice_true, guard_true}
use Rattle.at_model.proofs.fixpoint_cases.places_of_demands.Goals as goal

pub returns-clause-twice : goal.returns-clause-twice
returns-clause-twice c = twice_true

pub returns-clause-guard : goal.returns-clause-guard
returns-clause-guard c = guard_true

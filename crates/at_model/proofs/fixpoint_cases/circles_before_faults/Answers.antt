use Rattle.at_model.proofs.of_formulas.RingCases.{fa_circle, fk_circle, fc_circle}
use Rattle.at_model.proofs.fixpoint_cases.circles_before_faults.Goals as goal

pub returns-clause-fa : goal.returns-clause-fa
returns-clause-fa c = fa_circle

pub returns-clause-fk : goal.returns-clause-fk
returns-clause-fk c = fk_circle

pub returns-clause-fc : goal.returns-clause-fc
returns-clause-fc c = fc_circle

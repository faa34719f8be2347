use Rattle.at_model.proofs.of_formulas.RingCases.{deep_faults, m_faults, n_faults, ga_faults, gx_faults}
use Rattle.at_model.proofs.fixpoint_cases.faults_in_rings.Goals as goal

pub returns-clause-deep : goal.returns-clause-deep
returns-clause-deep c = deep_faults

pub returns-clause-m : goal.returns-clause-m
returns-clause-m c = m_faults

pub returns-clause-n : goal.returns-clause-n
returns-clause-n c = n_faults

pub returns-clause-ga : goal.returns-clause-ga
returns-clause-ga c = ga_faults

pub returns-clause-gx : goal.returns-clause-gx
returns-clause-gx c = gx_faults

use Rattle.std.proofs.Common.{◌<◌, arith}
use Rattle.at_model.proofs.limit_cases.numbers_of_lines.Goals as goal

pub returns-clause-session : goal.returns-clause-session
returns-clause-session c = λ l is e. let h : l.session < 1000 = is.session in omega arith

pub returns-clause-last_index : goal.returns-clause-last_index
returns-clause-last_index c = omega arith

pub returns-clause-no_index : goal.returns-clause-no_index
returns-clause-no_index c = λ h. omega (arith, h)

pub returns-clause-last_version : goal.returns-clause-last_version
returns-clause-last_version c = omega arith

pub returns-clause-no_version : goal.returns-clause-no_version
returns-clause-no_version c = λ h. omega (arith, h)

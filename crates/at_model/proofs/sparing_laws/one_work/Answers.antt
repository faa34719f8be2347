use Rattle.std.proofs.Common.{◌≡◌, true}
use Rattle.at_model.specs.Keeping.{NothingKept}
use Rattle.at_model.proofs.of_machines.KeptOverLines.{one_work, one_total, total_next}
use Rattle.at_model.proofs.sparing_laws.one_work.Goals as goal

pub returns-clause-line : goal.returns-clause-line
returns-clause-line c = λ rules s v kept. one_work rules s v (λ i. kept i ≡ true)

pub returns-clause-lines : goal.returns-clause-lines
returns-clause-lines c = λ rules s ls. one_total rules s ls NothingKept

pub returns-clause-next : goal.returns-clause-next
returns-clause-next c = λ rules s ls l. total_next rules s ls l NothingKept

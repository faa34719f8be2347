use Rattle.at_model.specs.Keeping.{NothingKept}
use Rattle.at_model.proofs.of_machines.KeptOverLines.{sound_over, well_from_nothing, kept_next}
use Rattle.at_model.proofs.of_machines.NothingLost.{kept_there, nothing_lost}
use Rattle.at_model.proofs.sparing_laws.what_is_kept_over_lines.Goals as goal

pub returns-clause-well : goal.returns-clause-well
returns-clause-well c = λ rules s ls sound spread. (sound_over rules s ls sound, well_from_nothing rules s ls sound spread)

pub returns-clause-next : goal.returns-clause-next
returns-clause-next c = λ rules s ls l i. kept_next rules s ls l NothingKept i

pub returns-clause-there : goal.returns-clause-there
returns-clause-there c = λ rules s ls i sound. kept_there rules s ls sound i

pub returns-clause-edit : goal.returns-clause-edit
returns-clause-edit c = nothing_lost

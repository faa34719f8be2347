use Rattle.at_index.proofs.of_runs.Stretches.{adds_before, reads_then}
use Rattle.at_index.proofs.tells.Adding.add_stretch.Goals as goal

pub returns-in_err-sit_anew-clause-adds : goal.returns-in_err-sit_anew-clause-adds
returns-in_err-sit_anew-clause-adds g c = adds_before c.add_along.ensures.adds c.sit_anew.ensures.holds

pub returns-clause-adds : goal.returns-clause-adds
returns-clause-adds g c = reads_then (adds_before c.add_along.ensures.adds c.sit_anew.ensures.holds) c.add_along-2.ensures.adds (λ l d. d)

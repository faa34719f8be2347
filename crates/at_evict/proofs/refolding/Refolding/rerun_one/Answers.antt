use Rattle.at_evict.proofs.refolding.Refolding.rerun_one.Goals as goal

pub returns-clause-further : goal.returns-clause-further
returns-clause-further c = let made = rw c.as_slice.ensures.value at c.in_ok-made.ensures in made.further

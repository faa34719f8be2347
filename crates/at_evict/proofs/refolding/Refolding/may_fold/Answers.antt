use Rattle.at_evict.proofs.refolding.Refolding.may_fold.Goals as goal

pub returns-clause-below : goal.returns-clause-below
returns-clause-below c t = rw (c.as_slice.ensures, c.slots_at-targets.ensures) at (c.are_below.ensures c.if-not-are_below.false)

pub returns-clause-used : goal.returns-clause-used
returns-clause-used c t = rw c.slots_at-targets.ensures at (c.are_used.ensures t)

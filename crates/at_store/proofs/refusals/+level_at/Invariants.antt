use Rattle.at_store.proofs.refusals.+level_at.Given as goal

abbrev pub decreases-level_at : goal.decreases-level_at
decreases-level_at l = l.most

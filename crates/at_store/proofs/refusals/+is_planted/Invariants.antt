use Rattle.at_store.proofs.refusals.+is_planted.Given as goal

abbrev pub decreases-is_planted : goal.decreases-is_planted
decreases-is_planted l = l.most

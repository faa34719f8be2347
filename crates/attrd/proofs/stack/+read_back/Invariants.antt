use Rattle.attrd.proofs.stack.+read_back.Given as goal

abbrev pub decreases-read_back : goal.decreases-read_back
decreases-read_back l = l.levels

use Rattle.at_class.proofs.taken.TakenNames.take.Goals as goal

pub returns : goal.returns
returns c = (c.in_ok-add.ensures.0, λ before k. (c.in_ok-add.ensures.1 before k, c.in_ok-is_taken.ensures before k))

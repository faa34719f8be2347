use Rattle.at_body.proofs.inst.are_all_same.Goals as goal

pub returns : goal.returns
returns c = rw (← c.as_slice.ensures, ← c.as_slice-2.ensures) c.are_each_same.ensures

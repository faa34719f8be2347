use Rattle.at_body.proofs.trial.Trial.texts.Goals as goal

pub returns : goal.returns
returns c = (c.in-Some.first.text.now, c.in-Some-lent.second.text.now, c.eq.ensures, c.in-Some.ensures, c.in-Some-lent.ensures)

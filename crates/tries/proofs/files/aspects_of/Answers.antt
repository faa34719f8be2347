use Rattle.tries.proofs.files.aspects_of.Goals as goal

pub returns-in-Ok : goal.returns-in-Ok
returns-in-Ok c = (_, c.in-Ok.ensures.found.0, c.in-Ok.ensures.found.2)

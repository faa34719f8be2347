use Rattle.at_engine.proofs.engine.Engine.asked.Goals as goal

pub returns : goal.returns
returns g c = c.asked.ensures

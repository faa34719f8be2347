use Rattle.at_engine.proofs.engine.Engine.tree.Goals as goal

pub returns-clause-idle : goal.returns-clause-idle
returns-clause-idle g c sound = sound.held.idle

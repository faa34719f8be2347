use Rattle.at_engine.proofs.engine.Engine.set_most.Goals as goal

pub returns-clause-sound : goal.returns-clause-sound
returns-clause-sound g c s = record { held = s.held; typed = s.typed; known = s.known }

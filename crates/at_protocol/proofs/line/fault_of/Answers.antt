use Rattle.std.proofs.Common.{ap}
use Rattle.at_protocol.specs.declared.line.LineFault.TheVariants.{Memory}
use Rattle.at_protocol.proofs.Lines.{session_is}
use Rattle.at_protocol.proofs.line.fault_of.Goals as goal

pub returns-in-Memory-clause-only : goal.returns-in-Memory-clause-only
returns-in-Memory-clause-only c = λ l h. ap Memory (session_is _ c.session_of-session.result l c.session_of-session.ensures h)

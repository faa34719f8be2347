use Rattle.std.proofs.Common.{sym}
use Rattle.at_engine.specs.Engines.{marks_of, rules_of, state_of}
use Rattle.at_engine.proofs.of_turns.Awaiting.{at_once}
use Rattle.at_engine.proofs.of_turns.Opened.{waits_or_not}
use Rattle.at_engine.proofs.engine.Engine.awaited.Goals as goal

pub returns-in-Wait : goal.returns-in-Wait
returns-in-Wait g c =
    let e = c.args.self.now in
    rw c.in-Wait.is (waits_or_not (rules_of e) e.store e.version (marks_of e) e.posts c.args.session c.in-Wait.number c.position.result (sym c.position.ensures))

pub returns-in_default : goal.returns-in_default
returns-in_default g c = at_once (rules_of c.args.self.now) (state_of c.args.self.now) c.args.session c.args.command.now c.in_default.not-Wait

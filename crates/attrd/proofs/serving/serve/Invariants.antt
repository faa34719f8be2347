use Rattle.std.proofs.Common.{◌≡◌, ◌+◌, ◌≤◌}
use Rattle.at_engine.specs.Engines.{rules_of, settings_of, IsSound}
use Rattle.at_engine.specs.Keeping.{IsSpare, KeepsWhole}
use Rattle.attrd.specs.Connections.{faults, lack}
use Rattle.attrd.specs.Doors.{ServesAll}
use Rattle.attrd.proofs.serving.serve.Given as goal

-- as many connections ended as turns were taken
abbrev pub invariant-loop-turn : goal.invariant-loop-turn
invariant-loop-turn g l = record {
  serves : ServesAll g.K.Keeper.contents g.K.Keeper.memories g.D.Reader.Input.remaining
      g.D.Reader.Input.failed g.D.Reader.Input.ended g.D.Reader.Input.reads g.D.Writer.Output.contents
      g.D.Writer.Output.failed g.D.Writer.Output.waits
      g.D.Door.gathering l.fn.engine (g.D.Door.seen l.fn.door) l.turn l.engine (g.D.Door.seen l.door) l.served;
  spare : KeepsWhole (rules_of l.fn.engine) (lack l.served) → IsSpare g.K.Keeper.contents l.fn.engine → IsSpare g.K.Keeper.contents l.engine;
  ended : l.served.ended ≡ l.turn;
  faults : faults l.served + l.served.lacking ≤ l.turn;
  rules : rules_of l.engine ≡ rules_of l.fn.engine;
  settings : settings_of l.engine ≡ settings_of l.fn.engine;
  sound : IsSound g.K.Keeper.contents g.K.Keeper.memories l.engine;
}

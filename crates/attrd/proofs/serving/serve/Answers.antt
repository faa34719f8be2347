use Rattle.std.proofs.Common.{◌≡◌, ◌∙◌, ◌+◌, refl, ap, subst, sym, arith}
use Rattle.at_engine.specs.Engines.{rules_of}
use Rattle.attrd.specs.Connections.{faults}
use Rattle.attrd.specs.Doors.{ServesAll, none, one_more}
use Rattle.attrd.specs.declared.serving.Served.{Served}
use Rattle.attrd.proofs.DoorsLemmas.{counted_ends, counted_faults, whole_before, whole_next}
use Rattle.attrd.proofs.serving.serve.Goals as goal

pub loop-turn-init : goal.loop-turn-init
loop-turn-init g c =
    let engine = c.args.engine.now in
    let seen = g.D.Door.seen c.args.door.now in
    let zero : faults c.none-served.result + c.none-served.result.lacking ≡ 0 =
    ap (λ (s : Served). faults s + s.lacking) c.none-served.ensures in record {
      serves = subst (ServesAll g.K.Keeper.contents g.K.Keeper.memories g.D.Reader.Input.remaining
          g.D.Reader.Input.failed g.D.Reader.Input.ended g.D.Reader.Input.reads g.D.Writer.Output.contents
          g.D.Writer.Output.failed g.D.Writer.Output.waits
          g.D.Door.gathering engine seen 0 engine seen)
          (sym c.none-served.ensures) none;
      spare = λ whole spare. spare;
      ended = ap (λ (s : Served). s.ended) c.none-served.ensures;
      faults = omega (arith, zero);
      rules = refl;
      settings = refl;
      sound = c.requires.sound;
    }

pub loop-turn-preserved : goal.loop-turn-preserved
loop-turn-preserved g c =
    let inv = c.loop-turn.invariant in
    let next = c.serve_next-ended.ensures in
    let seen = g.D.Door.seen in
    let first = c.args.engine.now in
    let mid = c.loop-turn.engine in
    record {
      serves = subst (ServesAll g.K.Keeper.contents g.K.Keeper.memories g.D.Reader.Input.remaining
          g.D.Reader.Input.failed g.D.Reader.Input.ended g.D.Reader.Input.reads g.D.Writer.Output.contents
          g.D.Writer.Output.failed g.D.Writer.Output.waits
          g.D.Door.gathering first (seen c.args.door.now) (c.loop-turn.turn + 1) c.serve_next-ended.new.engine
          (seen c.serve_next-ended.new.door)) (sym c.count.ensures) (one_more inv.serves next.serves);
      spare = λ whole spare.
          next.spare (whole_next c.serve_next-ended.result c.loop-turn.served c.count.new.self (rules_of first) (rules_of mid)
          c.count.ensures inv.rules whole)
          (inv.spare (whole_before c.serve_next-ended.result c.loop-turn.served c.count.new.self (rules_of first)
          c.count.ensures whole) spare);
      ended = counted_ends c.serve_next-ended.result c.loop-turn.served c.count.new.self c.loop-turn.turn
          c.count.ensures inv.ended;
      faults = counted_faults c.serve_next-ended.result c.loop-turn.served c.count.new.self c.loop-turn.turn
          c.count.ensures inv.faults;
      rules = next.rules ∙ inv.rules;
      settings = next.settings ∙ inv.settings;
      sound = next.sound;
    }

use Rattle.std.proofs.Common.{◌∙◌, ◌+◌, ap, arith, refl, sym, Ok}
use Rattle.std.proofs.lemmas.Result.{err_from_is_err_and}
use Rattle.std.specs.Prelude.{is_err}
use Rattle.at_engine.specs.Engines.{rules_of, state_of}
use Rattle.at_engine.specs.declared.engine.Engine.{Engine}
use Rattle.at_engine.proofs.of_turns.Giving.{fewer_then, gave_more, gave_nothing, none_posted, ruled, ruled_in_part, stops_later}
use Rattle.at_engine.proofs.GoingLemmas.{goes_alike, goes_nowhere, goes_on}
use Rattle.at_engine.proofs.stream.drain.Goals as goal

pub loop-engine-init : goal.loop-engine-init
loop-engine-init g c =
    let e = c.args.engine.now in
    let contents = g.W.Output.contents in
    record {
      given = (0, gave_nothing (rules_of e) (state_of e) (state_of e) c.args.desk.now c.args.desk.now (contents c.args.writer.now) refl refl refl);
      none = λ h. refl;
      line = refl;
      goes = goes_nowhere g.K.Keeper.contents g.K.Keeper.memories g.W.Output.failed g.W.Output.waits e c.args.desk.now _ _ 0 tt c.requires.sound refl refl;
    }

pub loop-engine-preserved : goal.loop-engine-preserved
loop-engine-preserved g c =
    let inv = c.loop-engine.invariant in
    let one = c.in_ok-give_some.ensures in
    let rules = rules_of c.args.engine.now in
    let turns = one.done.turns in
    record {
      given = (
        inv.given.0 + turns,
        gave_more rules inv.given.0 turns _ _ _ _ _ _ _ _ _ inv.given.1
            (ruled rules (rules_of c.loop-engine.engine) turns _ _ _ _ _ _ inv.goes.rules one.done.gives),
      );
      none = λ h. one.none (ap (λ (e : Engine g.row.K.Denot). (state_of e).posted) (inv.none h) ∙ h) ∙ inv.none h;
      line = one.line ∙ inv.line;
      goes = goes_on g.K.Keeper.contents g.K.Keeper.memories g.W.Output.failed g.W.Output.waits _ _ _ _ _ _ _ _ _ _ 0 0 0 tt (Ok tt) inv.goes refl refl (omega arith)
          (goes_alike g.K.Keeper.contents g.K.Keeper.memories g.W.Output.failed g.W.Output.waits _ _ _ _ _ _ 0 (Ok c.in_ok-give_some.field-0) (Ok tt) refl one.goes);
    }

pub loop-engine-smaller : goal.loop-engine-smaller
loop-engine-smaller g c =
    let mid = c.loop-engine.engine in
    fewer_then mid c.in_ok-give_some.ensures.done.turns c.in_ok-give_some.field-0
    (state_of c.give_some.new.engine) c.loop-engine-test.ensures c.in_ok-give_some.ensures.done.are_left

pub returns : goal.returns
returns g c =
    let inv = c.loop-engine.invariant in
    record {
      done = record { turns = inv.given.0; gives = inv.given.1; none_open = none_posted c.loop-engine.engine c.loop-engine-test.ensures };
      none = inv.none;
      line = inv.line;
      goes = inv.goes;
    }

pub returns-in_err-give_some : goal.returns-in_err-give_some
returns-in_err-give_some g c =
    let p = err_from_is_err_and c.from_residual.result c.from_residual.ensures.1 in
    let inv = c.loop-engine.invariant in
    let one = c.in_err-give_some.ensures in
    let s = one.done in
    let rules = rules_of c.args.engine.now in
    record {
      done = rw (p.1, p.2) (
        s.0,
        _,
        stops_later rules inv.given.0 s.1 _ _ _ _ _ _ _ _ inv.given.1 (ruled_in_part rules
            (rules_of c.loop-engine.engine) s.1 _ _ _ _ inv.goes.rules s.3),
      );
      none = λ h. one.none (ap (λ (e : Engine g.row.K.Denot). (state_of e).posted) (inv.none h) ∙ h) ∙ inv.none h;
      line = one.line ∙ inv.line;
      goes = goes_on g.K.Keeper.contents g.K.Keeper.memories g.W.Output.failed g.W.Output.waits _ _ _ _ _ _ _ _ _ _ 0 0 0 tt c.from_residual.result inv.goes refl refl (omega arith)
          (goes_alike g.K.Keeper.contents g.K.Keeper.memories g.W.Output.failed g.W.Output.waits _ _ _ _ _ _ 0 _ c.from_residual.result (ap is_err (sym p.1)) one.goes);
    }

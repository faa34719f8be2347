use Rattle.std.proofs.Common.{◌≡◌, ◌≤◌, ◌∙◌, ap, arith, map, refl, false, ◌+◌, ◌-◌, Ok, sym}
use Rattle.std.proofs.lemmas.Result.{err_from_is_err_and}
use Rattle.std.specs.Prelude.{is_err}
use Rattle.at_store.specs.Shown.{path}
use Rattle.at_engine.specs.Engines.{rules_of, slice_of, state_of}
use Rattle.at_engine.specs.Posted.{posted_view}
use Rattle.at_engine.specs.declared.engine.Engine.{Engine}
use Rattle.at_model.specs.Machine.{none_open}
use Rattle.at_engine.proofs.of_turns.Giving.{as_many_given, as_many_in_part, gave_more, gave_none, gave_nothing, ruled, ruled_in_part, stops_later}
use Rattle.at_engine.proofs.GoingLemmas.{goes_alike, goes_nowhere, goes_on}
use Rattle.at_engine.proofs.stream.give_turns.Goals as goal

pub returns-then-is_settled : goal.returns-then-is_settled
returns-then-is_settled g c =
    let e = c.args.engine.now in
    let none = ap (map (posted_view (path e.store))) c.if-is_settled.ensures in
    let given = none_open (slice_of e) (state_of e) none in
    record {
      done = gave_none (rules_of e) (slice_of e) (state_of e) (state_of e) c.args.desk.now c.args.desk.now (g.W.Output.contents c.args.writer.now) given refl refl;
      none = λ h. refl;
      line = refl;
      goes = goes_nowhere g.K.Keeper.contents g.K.Keeper.memories g.W.Output.failed g.W.Output.waits e c.args.desk.now _ _ 0 tt c.requires.sound refl refl;
    }

pub loop-left-init : goal.loop-left-init
loop-left-init g c =
    let e = c.args.engine.now in
    let contents = g.W.Output.contents in
    let all : c.from-left.result ≡ slice_of e = c.from-left.ensures ∙ c.slice.ensures in
    let none : 0 ≡ slice_of e - c.from-left.result = omega (arith, all) in
    record {
      within = omega (arith, all);
      gives = as_many_given (rules_of e) 0 _ _ _ _ _ _ _ none (gave_nothing (rules_of e) (state_of e) (state_of e) c.args.desk.now c.args.desk.now (contents c.args.writer.now) refl refl refl);
      none = λ h. refl;
      line = refl;
      goes = goes_nowhere g.K.Keeper.contents g.K.Keeper.memories g.W.Output.failed g.W.Output.waits e c.args.desk.now _ _ 0 tt c.requires.sound refl refl;
    }

pub loop-left-preserved : goal.loop-left-preserved
loop-left-preserved g c =
    let inv = c.loop-left.invariant in
    let some = c.in_ok-left.ensures in
    let rules = rules_of c.args.engine.now in
    let slice = slice_of c.args.engine.now in
    let left = c.loop-left.left in
    let rest = c.in_ok-left.left in
    let turns = some.done.turns in
    let more = ruled rules (rules_of c.loop-left.engine) turns _ _ _ _ _ _ inv.goes.rules some.done.gives in
    let all : (slice - left) + turns ≡ slice - rest = omega (arith, inv.within, some.done.are_left.1) in
    record {
      within = omega (arith, inv.within, some.done.are_left.0);
      gives = as_many_given rules ((slice - left) + turns) (slice - rest) _ _ _ _ _ _ all (gave_more rules
          (slice - left) turns _ _ _ _ _ _ _ _ _ inv.gives more);
      none = λ h. some.none (ap (λ (e : Engine g.row.K.Denot). (state_of e).posted) (inv.none h) ∙ h) ∙ inv.none h;
      line = some.line ∙ inv.line;
      goes = goes_on g.K.Keeper.contents g.K.Keeper.memories g.W.Output.failed g.W.Output.waits _ _ _ _ _ _ _ _ _ _ 0 0 0 tt (Ok tt) inv.goes refl refl (omega arith)
          (goes_alike g.K.Keeper.contents g.K.Keeper.memories g.W.Output.failed g.W.Output.waits _ _ _ _ _ _ 0 (Ok rest) (Ok tt) refl some.goes);
    }

pub returns : goal.returns
returns g c =
    let inv = c.loop-left.invariant in
    let slice = slice_of c.args.engine.now in
    let all : slice - c.loop-left.left ≡ slice = omega (arith, c.loop-left-test.false) in
    record {
      done = as_many_given (rules_of c.args.engine.now) (slice - c.loop-left.left) slice _ _ _ _ _ _ all inv.gives;
      none = inv.none;
      line = inv.line;
      goes = inv.goes;
    }

pub returns-in_err-left : goal.returns-in_err-left
returns-in_err-left g c =
    let p = err_from_is_err_and c.from_residual.result c.from_residual.ensures.1 in
    let inv = c.loop-left.invariant in
    let some = c.in_err-left.ensures in
    let rules = rules_of c.args.engine.now in
    let slice = slice_of c.args.engine.now in
    let left = c.loop-left.left in
    let n = some.done.1 in
    let all : (slice - left) + n ≤ slice = omega (arith, inv.within, some.done.2) in
    record {
      done = rw (p.1, p.2) (
        some.done.0,
        as_many_in_part rules ((slice - left) + n) slice _ _ _ _ all (stops_later rules
            (slice - left) n _ _ _ _ _ _ _ _ inv.gives (ruled_in_part rules
            (rules_of c.loop-left.engine) n _ _ _ _ inv.goes.rules some.done.3)),
      );
      none = λ h. some.none (ap (λ (e : Engine g.row.K.Denot). (state_of e).posted) (inv.none h) ∙ h) ∙ inv.none h;
      line = some.line ∙ inv.line;
      goes = goes_on g.K.Keeper.contents g.K.Keeper.memories g.W.Output.failed g.W.Output.waits _ _ _ _ _ _ _ _ _ _ 0 0 0 tt c.from_residual.result inv.goes refl refl (omega arith)
          (goes_alike g.K.Keeper.contents g.K.Keeper.memories g.W.Output.failed g.W.Output.waits _ _ _ _ _ _ 0 _ c.from_residual.result (ap is_err (sym p.1)) some.goes);
    }

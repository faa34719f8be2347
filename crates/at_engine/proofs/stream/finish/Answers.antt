use Rattle.std.proofs.Common.{◌≡◌, ap, length, ◌<◌, ◌≤◌, arith, vec_len, refl, sym, Ok}
use Rattle.std.specs.Prelude.{is_err}
use Rattle.std.proofs.lemmas.Result.{err_from_is_err_and}
use Rattle.std.proofs.lemmas.Bool.Decides.{nat_tests}
use Rattle.at_engine.specs.Loop.{kept}
use Rattle.at_engine.specs.Engines.{rules_of, slice_of, state_of}
use Rattle.at_engine.proofs.of_keeping.Kept.{filled_as_kept, empty_as_kept}
use Rattle.at_engine.proofs.of_keeping.KeepingBytes.{kept_at_end, kept_at_once}
use Rattle.at_engine.specs.Going.{sends_nothing, sends_reply, unsaid}
use Rattle.at_engine.proofs.of_turns.Waiting.{each_drained}
use Rattle.at_engine.proofs.GoingLemmas.{goes_alike, goes_more, goes_on, goes_said}
use Rattle.at_engine.proofs.Runnings.{end_of_empty, end_of_line, stopped_in_last}
use Rattle.at_engine.proofs.stream.finish.Goals as goal

pub returns-in_err-serve : goal.returns-in_err-serve
returns-in_err-serve g c = record {
  finished = λ front e.
      let p = err_from_is_err_and c.from_residual.result c.from_residual.ensures.1 in
      let s = c.in_err-serve.ensures.serves.served in
      let some : 0 < vec_len c.args.desk.now.line = grind (arith, nat_tests) in
      let long : 0 < length (kept front) = omega (arith, some, c.args.desk.now.line.ok.0, ap length e) in
      rw (p.1, p.2) (s.0, stopped_in_last (rules_of c.args.engine.now) (slice_of c.args.engine.now) _ _ front c.args.desk.now.line.items _ _ (filled_as_kept front long) e s.1);
  keeps = λ spare front e. let p = err_from_is_err_and c.from_residual.result c.from_residual.ensures.1 in rw p.1 tt;
  goes =
      let p = err_from_is_err_and c.from_residual.result c.from_residual.ensures.1 in
      goes_said g.K.Keeper.contents g.K.Keeper.memories g.W.Output.failed g.W.Output.waits _ _ _ _ _ _ 1 c.from_residual.result (rw p.1 tt)
      (goes_alike g.K.Keeper.contents g.K.Keeper.memories g.W.Output.failed unsaid _ _ _ _ _ _ 1 _ c.from_residual.result (ap is_err (sym p.1)) c.in_err-serve.ensures.serves.goes);
  each = let p = err_from_is_err_and c.from_residual.result c.from_residual.ensures.1 in rw p.1 tt;
}

pub returns : goal.returns
returns g c = record {
  finished = λ front e.
      let old = c.args.engine.now in
      let mid = c.serve.new.engine in
      let some : 0 < vec_len c.args.desk.now.line = grind (arith, nat_tests) in
      let long : 0 < length (kept front) = omega (arith, some, c.args.desk.now.line.ok.0, ap length e) in
      end_of_line c.drain-2.result (rules_of old) (rules_of mid) (slice_of old) (state_of old) (state_of mid) (state_of c.drain-2.new.engine) front c.args.desk.now.line.items c.args.desk.now c.serve.new.desk c.drain-2.new.desk _ _ _
      c.in_ok-serve.ensures.serves.goes.rules (filled_as_kept front long) e c.in_ok-serve.ensures.serves.served c.drain-2.ensures.done;
  keeps = λ spare front e.
      let mid = c.serve.new.engine in
      let some : 0 < vec_len c.args.desk.now.line = grind (arith, nat_tests) in
      let long : 0 < length (kept front) = omega (arith, some, c.args.desk.now.line.ok.0, ap length e) in
      kept_at_end g.K.Keeper.contents c.drain-2.result c.args.engine.now mid c.drain-2.new.engine (rules_of mid) (slice_of c.args.engine.now) front c.args.desk.now.line.items c.args.desk.now c.serve.new.desk c.drain-2.new.desk _ _ _
      (filled_as_kept front long) e (c.in_ok-serve.ensures.serves.keeps spare) c.in_ok-serve.ensures.serves.served c.drain-2.ensures.done c.drain-2.ensures.none;
  goes = goes_on g.K.Keeper.contents g.K.Keeper.memories g.W.Output.failed g.W.Output.waits _ _ _ _ _ _ _ _ _ _ 1 0 1 (tt {0}) c.drain-2.result
      (goes_said g.K.Keeper.contents g.K.Keeper.memories g.W.Output.failed g.W.Output.waits _ _ _ _ _ _ 1 (Ok (tt {0})) (λ none. c.in_ok-serve.ensures.sent refl) c.in_ok-serve.ensures.serves.goes) refl refl (omega arith) c.drain-2.ensures.goes;
  each = each_drained g.K.Keeper.contents g.K.Keeper.memories g.W.Output.contents g.W.Output.failed
      g.W.Output.waits c.args.engine.now c.serve.new.engine c.drain-2.new.engine c.args.writer.now c.serve.new.writer
      c.drain-2.new.writer c.serve.new.desk c.drain-2.new.desk c.drain-2.result
      (sends_reply c.args.engine.now c.serve.new.engine c.args.writer.now c.serve.new.writer c.args.desk.now
      c.serve.new.desk _ sends_nothing c.in_ok-serve.ensures.serves (c.in_ok-serve.ensures.sent refl))
      c.drain-2.ensures;
}

pub returns-then-is_empty : goal.returns-then-is_empty
returns-then-is_empty g c = record {
  finished = λ front e.
      let none : vec_len c.args.desk.now.line ≡ 0 = grind (arith, nat_tests) in
      let short : length (kept front) ≤ 0 = omega (arith, none, c.args.desk.now.line.ok.0, ap length e) in
      rw (empty_as_kept front short) (end_of_empty c.drain.result (rules_of c.args.engine.now) (slice_of c.args.engine.now) _ _ c.args.desk.now c.drain.new.desk _ _ c.drain.ensures.done);
  keeps = λ spare front e.
      let none : vec_len c.args.desk.now.line ≡ 0 = grind (arith, nat_tests) in
      let short : length (kept front) ≤ 0 = omega (arith, none, c.args.desk.now.line.ok.0, ap length e) in
      rw (empty_as_kept front short) (kept_at_once g.K.Keeper.contents c.drain.result c.args.engine.now c.drain.new.engine c.args.desk.now c.drain.new.desk c.drain.ensures.none);
  goes = goes_more g.K.Keeper.contents g.K.Keeper.memories g.W.Output.failed g.W.Output.waits _ _ _ _ _ _ 0 1 c.drain.result (omega arith) c.drain.ensures.goes;
  each = each_drained g.K.Keeper.contents g.K.Keeper.memories g.W.Output.contents g.W.Output.failed
      g.W.Output.waits c.args.engine.now c.args.engine.now c.drain.new.engine c.args.writer.now c.args.writer.now
      c.drain.new.writer c.args.desk.now c.drain.new.desk c.drain.result sends_nothing c.drain.ensures;
}

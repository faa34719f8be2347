use Rattle.std.proofs.Common.{inl, inr, ◌≡◌, ◌∙◌, ap, [], length, ◌<◌, ◌≤◌, arith, refl, vec_len, sym}
use Rattle.std.specs.Prelude.{is_err}
use Rattle.std.proofs.lemmas.Result.{err_from_is_err_and}
use Rattle.std.proofs.lemmas.Bool.Decides.{nat_tests}
use Rattle.at_engine.specs.Engines.{rules_of, slice_of}
use Rattle.at_engine.specs.Going.{sends_nothing, sends_reply, unsaid}
use Rattle.at_engine.specs.Loop.{kept}
use Rattle.at_engine.proofs.of_keeping.Kept.{filled_as_kept, empty_as_kept, kept-nil}
use Rattle.at_engine.proofs.of_keeping.KeepingBytes.{keeps_empty, keeps_line, none_after_line}
use Rattle.at_engine.proofs.GoingLemmas.{goes_alike, goes_nowhere}
use Rattle.at_engine.proofs.Takings.{took_empty, took_line, stopped_at_line}
use Rattle.at_engine.proofs.stream.take_newline.Goals as goal

pub returns-in_err-serve-clause-takes : goal.returns-in_err-serve-clause-takes
returns-in_err-serve-clause-takes g c = record {
  taken = λ front o e.
      let p = err_from_is_err_and c.from_residual.result c.from_residual.ensures.1 in
      let s = c.in_err-serve.ensures.serves.served in
      let some : 0 < vec_len c.args.desk.now.line = grind (arith, nat_tests) in
      let long : 0 < length (kept front) = omega (arith, some, c.args.desk.now.line.ok.0, ap length e) in
      rw (p.1, p.2) (s.0, stopped_at_line (rules_of c.args.engine.now) (slice_of c.args.engine.now) _ _ front c.args.desk.now.line.items _ _ o (filled_as_kept front long) e s.1);
  keeps = λ spare whole front o e. let p = err_from_is_err_and c.from_residual.result c.from_residual.ensures.1 in rw p.1 tt;
  goes =
      let p = err_from_is_err_and c.from_residual.result c.from_residual.ensures.1 in
      goes_alike g.K.Keeper.contents g.K.Keeper.memories g.W.Output.failed unsaid _ _ _ _ _ _ 1 _ c.from_residual.result (ap is_err (sym p.1)) c.in_err-serve.ensures.serves.goes;
}

pub returns-in_ok-serve-clause-takes : goal.returns-in_ok-serve-clause-takes
returns-in_ok-serve-clause-takes g c = record {
  taken = λ front o e.
      let s = c.in_ok-serve.ensures.serves.served in
      let some : 0 < vec_len c.args.desk.now.line = grind (arith, nat_tests) in
      let long : 0 < length (kept front) = omega (arith, some, c.args.desk.now.line.ok.0, ap length e) in
      took_line (rules_of c.args.engine.now) (slice_of c.args.engine.now) _ _ front c.args.desk.now _ _ _ _ o (filled_as_kept front long) e s c.clear.ensures.items refl refl;
  keeps = λ spare whole front o e.
      let some : 0 < vec_len c.args.desk.now.line = grind (arith, nat_tests) in
      let long : 0 < length (kept front) = omega (arith, some, c.args.desk.now.line.ok.0, ap length e) in
      keeps_line g.K.Keeper.contents c.args.engine.now c.serve.new.engine front c.args.desk.now _ o (filled_as_kept front long) e c.clear.ensures.items
      (λ none no_post. c.in_ok-serve.ensures.serves.keeps spare none no_post whole)
      (λ none no_post. none_after_line _ _ _ _ _ _ _ _ _ none no_post c.in_ok-serve.ensures.serves.served);
  goes =
      let s = c.in_ok-serve.ensures.serves.goes in
      record { failed = s.failed; by = s.by; sent = s.sent; spare = s.spare; wanted = s.wanted; rules = s.rules; settings = s.settings; grows = s.grows; sound = s.sound };
}

pub returns-else-not-is_empty-clause-takes : goal.returns-else-not-is_empty-clause-takes
returns-else-not-is_empty-clause-takes g c = record {
  taken = λ front o e.
      let none : vec_len c.args.desk.now.line ≡ 0 = grind (arith, nat_tests) in
      let short : length (kept front) ≤ 0 = omega (arith, none, c.args.desk.now.line.ok.0, ap length e) in
      let line : c.args.desk.now.line.items ≡ [] = e ∙ ap kept (empty_as_kept front short) ∙ kept-nil in
      rw (empty_as_kept front short) (took_empty _ _ _ _ _ _ line refl refl);
  keeps = λ spare whole front o e.
      let none : vec_len c.args.desk.now.line ≡ 0 = grind (arith, nat_tests) in
      let short : length (kept front) ≤ 0 = omega (arith, none, c.args.desk.now.line.ok.0, ap length e) in
      let line : c.args.desk.now.line.items ≡ [] = e ∙ ap kept (empty_as_kept front short) ∙ kept-nil in
      rw (empty_as_kept front short) (keeps_empty g.K.Keeper.contents c.args.engine.now _ line);
  goes = goes_nowhere g.K.Keeper.contents g.K.Keeper.memories g.W.Output.failed unsaid c.args.engine.now c.args.desk.now _ _ 1 tt c.requires.sound refl refl;
}

pub returns-else-not-is_empty-clause-sent : goal.returns-else-not-is_empty-clause-sent
returns-else-not-is_empty-clause-sent g c = λ no_next h. elim h [
  | inl none ↦ none
  | inr some ↦
      let zero : vec_len c.args.desk.now.line ≡ 0 = grind (arith, nat_tests) in
      absurd (omega (arith, some, zero))
]

pub returns-in_err-serve-clause-sent : goal.returns-in_err-serve-clause-sent
returns-in_err-serve-clause-sent g c =
    let p = err_from_is_err_and c.from_residual.result c.from_residual.ensures.1 in rw p.1 tt

pub returns-in_err-serve-clause-each : goal.returns-in_err-serve-clause-each
returns-in_err-serve-clause-each g c =
    let p = err_from_is_err_and c.from_residual.result c.from_residual.ensures.1 in rw p.1 tt

pub returns-in_ok-serve-clause-each : goal.returns-in_ok-serve-clause-each
returns-in_ok-serve-clause-each g c = λ no_next.
    sends_reply c.args.engine.now c.serve.new.engine c.args.writer.now c.serve.new.writer c.args.desk.now
    c.serve.new.desk _ sends_nothing c.in_ok-serve.ensures.serves (c.in_ok-serve.ensures.sent no_next)

pub returns-else-not-is_empty-clause-each : goal.returns-else-not-is_empty-clause-each
returns-else-not-is_empty-clause-each g c = λ no_next. sends_nothing

use Rattle.std.proofs.Common.{nat_eq, ℕ, Result, inl, inr, ap, subst, true≢false, ◌≡◌, ◌∙◌, sym, [], ◌++◌, length, take, ◌<◌, ◌≤◌, ◌+◌, length-append, arith, refl, true, false}
use Rattle.std.proofs.KnownBytes.{Consumes-kept, Consumes-nil, Consumes-trans}
use Rattle.std.proofs.lemmas.Result.{err_from_is_err_and}
use Rattle.at_engine.specs.Ends.{Remembers}
use Rattle.at_rules.specs.Circular.{HasNoneCircular}
use Rattle.at_engine.specs.Keeping.{IsSpare}
use Rattle.at_engine.specs.Running.{KeepsWhole}
use Rattle.at_engine.specs.declared.stream.desk.Report.{Report}
use Rattle.at_engine.specs.declared.stream.desk.RunFault.{RunFault}
use Rattle.at_engine.specs.KeepingRuns.{KeepsBytes}
use Rattle.at_engine.specs.Engines.{state_of, rules_of, slice_of}
use Rattle.at_engine.specs.Going.{sends_nothing}
use Rattle.at_engine.specs.Stepping.{nowhere}
use Rattle.at_engine.proofs.of_turns.Waiting.{each_then}
use Rattle.at_engine.proofs.GoingLemmas.{by_both, first_whole, later_whole, same_slice, whole_before, whole_behind}
use Rattle.at_engine.proofs.of_keeping.Kept.{kept-nil}
use Rattle.at_engine.proofs.of_turns.Giving.{few_open}
use Rattle.at_engine.proofs.of_keeping.KeepingBytes.{keeps_more, keeps_none, keeps_run}
use Rattle.at_engine.proofs.Remembering.{counted_on, no_call, none_counted, not_zero, then_calls}
use Rattle.at_engine.proofs.Takings.{took_nothing, took_more, takes_under, stopped_later, stops_under}
use Rattle.at_engine.proofs.of_keeping.GoneOn.{went_over}
use Rattle.at_engine.proofs.Runnings.{ended, broke_off, cut_off, cut_off_at_end, at_end, finished_under, finish_stops_under}
use Rattle.at_engine.proofs.stream.run_with.Goals as goal

pub loop-turn-init : goal.loop-turn-init
loop-turn-init g c = record {
  so_far = ([], Consumes-nil _, omega arith, took_nothing _ _ _ [] c.in-Ok.desk _ refl (c.in-Ok.ensures.line ∙ sym kept-nil), λ spare whole. keeps_none g.K.Keeper.contents c.args.engine.now [] c.in-Ok.desk refl (c.in-Ok.ensures.line ∙ sym kept-nil));
  read = no_call _;
  ended = no_call _;
  reads = none_counted _;
  written = no_call _;
  each = λ off. sends_nothing;
  sent = λ none. none;
  by = nowhere;
  spare = λ whole spare. spare;
  wanted = omega arith;
  rules = refl;
  settings = refl;
  sound = c.requires.sound;
  few = omega (arith, c.in-Ok.ensures.lines, c.in-Ok.ensures.memory);
  open_few = few_open c.args.engine.now;
}

pub returns-in_err-finish : goal.returns-in_err-finish
returns-in_err-finish g c = record {
  ran =
      let p = err_from_is_err_and c.from_residual.result c.from_residual.ensures.1 in
      let contents = g.W.Output.contents in
      let inv = c.loop-turn.invariant.so_far in
      let rules = rules_of c.args.engine.now in
      let slice = slice_of c.args.engine.now in
      let t = inv.3 in
      let f = c.in_err-finish.ensures.finished t.rest t.line in
      let h = finish_stops_under rules _ slice _ (state_of c.loop-turn.engine) (state_of c.finish.new.engine) t.rest (contents c.loop-turn.writer) (contents c.finish.new.writer) c.loop-turn.invariant.rules (same_slice c.loop-turn.invariant.settings) f.1 in
      let read = at_end _ _ _ inv.0 c.in-Ok-read.count c.read.new.piece c.if-count-eq0.true inv.1 c.in-Ok-read.ensures.bytes.0 in
      let room : 0 < length c.read.new.piece = omega (arith, c.read.auto.piece) in
      rw (p.1, p.2, f.0) (cut_off_at_end rules slice _ _ _ inv.0 _ _ _ _ _ c.in-Ok.desk c.loop-turn.desk t h read (c.in-Ok-read.ensures.bytes.1 c.if-count-eq0.true room));
  failed =
      let p = err_from_is_err_and c.from_residual.result c.from_residual.ensures.1 in
      let t = c.loop-turn.invariant.so_far.3 in
      let f = c.in_err-finish.ensures.finished t.rest t.line in
      rw (p.1, p.2, f.0) (then_calls _ _ _ false c.loop-turn.invariant.read c.in-Ok-read.ensures.failed, then_calls _ _ _ true c.loop-turn.invariant.written c.in_err-finish.ensures.goes.failed);
  reads =
      let p = err_from_is_err_and c.from_residual.result c.from_residual.ensures.1 in
      let t = c.loop-turn.invariant.so_far.3 in
      let f = c.in_err-finish.ensures.finished t.rest t.line in
      rw (p.1, p.2, f.0) (c.loop-turn.turn + 1, omega arith, counted_on _ _ _ c.loop-turn.turn 1 c.loop-turn.invariant.reads c.in-Ok-read.ensures.counted);
  ended =
      let p = err_from_is_err_and c.from_residual.result c.from_residual.ensures.1 in
      let t = c.loop-turn.invariant.so_far.3 in
      let f = c.in_err-finish.ensures.finished t.rest t.line in
      rw (p.1, p.2, f.0) tt;
  sent =
      let p = err_from_is_err_and c.from_residual.result c.from_residual.ensures.1 in
      let t = c.loop-turn.invariant.so_far.3 in
      let f = c.in_err-finish.ensures.finished t.rest t.line in
      rw (p.1, p.2, f.0) (λ well none. absurd (true≢false well));
  each =
      let p = err_from_is_err_and c.from_residual.result c.from_residual.ensures.1 in
      let t = c.loop-turn.invariant.so_far.3 in
      let f = c.in_err-finish.ensures.finished t.rest t.line in
      rw (p.1, p.2, f.0) (λ off well. absurd (true≢false well));
  keeps = λ spare. let p = err_from_is_err_and c.from_residual.result c.from_residual.ensures.1 in rw p.1 tt;
  work = let p = err_from_is_err_and c.from_residual.result c.from_residual.ensures.1 in rw p.1 tt;
  by = by_both g.K.Keeper.contents g.K.Keeper.memories c.args.engine.now c.loop-turn.engine c.finish.new.engine c.loop-turn.invariant.by
      c.in_err-finish.ensures.goes.by;
  went = went_over g.K.Keeper.contents g.K.Keeper.memories c.args.engine.now c.finish.new.engine
      (by_both g.K.Keeper.contents g.K.Keeper.memories c.args.engine.now c.loop-turn.engine c.finish.new.engine c.loop-turn.invariant.by
      c.in_err-finish.ensures.goes.by);
  spare = λ whole spare.
      let p = err_from_is_err_and c.from_residual.result c.from_residual.ensures.1 in
      let none = subst (λ (r : Result Report RunFault). KeepsWhole (rules_of c.args.engine.now) r) p.1 whole in
      c.in_err-finish.ensures.goes.spare (inl (subst HasNoneCircular (sym c.loop-turn.invariant.rules) none))
      (c.loop-turn.invariant.spare (inl none) spare);
  rules = c.in_err-finish.ensures.goes.rules ∙ c.loop-turn.invariant.rules;
  settings = c.in_err-finish.ensures.goes.settings ∙ c.loop-turn.invariant.settings;
  sound = c.in_err-finish.ensures.goes.sound;
}

pub returns-then-count-eq0 : goal.returns-then-count-eq0
returns-then-count-eq0 g c = record {
  ran =
      let contents = g.W.Output.contents in
      let inv = c.loop-turn.invariant.so_far in
      let rules = rules_of c.args.engine.now in
      let slice = slice_of c.args.engine.now in
      let t = inv.3 in
      let f = finished_under rules _ slice _ (state_of c.loop-turn.engine) (state_of c.finish.new.engine) t.rest c.loop-turn.desk c.finish.new.desk (contents c.loop-turn.writer) (contents c.finish.new.writer) c.loop-turn.invariant.rules (same_slice c.loop-turn.invariant.settings) (c.in_ok-finish.ensures.finished t.rest t.line) in
      let read = at_end _ _ _ inv.0 c.in-Ok-read.count c.read.new.piece c.if-count-eq0.true inv.1 c.in-Ok-read.ensures.bytes.0 in
      let room : 0 < length c.read.new.piece = omega (arith, c.read.auto.piece) in
      ended rules slice _ _ _ inv.0 _ _ _ _ _ c.in-Ok.desk c.loop-turn.desk c.finish.new.desk c.report.result t f read (c.in-Ok-read.ensures.bytes.1 c.if-count-eq0.true room)
      c.in-Ok.ensures.lines c.in-Ok.ensures.memory c.report.ensures.lines c.report.ensures.memory (omega (arith, c.report.ensures.accepted, c.saturating_sub-accepted.ensures, c.version.ensures, c.version-version.ensures));
  failed = (then_calls _ _ _ false c.loop-turn.invariant.read c.in-Ok-read.ensures.failed, then_calls _ _ _ false c.loop-turn.invariant.written c.in_ok-finish.ensures.goes.failed);
  reads = (c.loop-turn.turn + 1, omega arith, counted_on _ _ _ c.loop-turn.turn 1 c.loop-turn.invariant.reads c.in-Ok-read.ensures.counted);
  ended =
      then_calls _ _ _ true c.loop-turn.invariant.ended (subst (Remembers _ _) (ap (λ (n : ℕ). nat_eq n 0) c.if-count-eq0.true) c.in-Ok-read.ensures.ended);
  sent = λ well none. c.in_ok-finish.ensures.goes.sent (c.loop-turn.invariant.sent none);
  each = λ off well.
      each_then g.K.Keeper.contents g.K.Keeper.memories g.W.Output.contents g.W.Output.failed
      g.W.Output.waits c.args.engine.now c.loop-turn.engine c.args.writer.now c.loop-turn.writer
      c.finish.new.engine c.finish.new.writer
      (c.loop-turn.invariant.each off) c.in_ok-finish.ensures.each;
  keeps = λ spare none.
      let inv = c.loop-turn.invariant.so_far in
      let t = inv.3 in
      let f = c.in_ok-finish.ensures.finished t.rest t.line in
      let later : c.finish.new.desk.memory ≡ c.loop-turn.desk.memory = omega (arith, none, c.report.ensures.memory, f.counts.memory, t.counts.memory) in
      let first : c.loop-turn.desk.memory ≡ c.in-Ok.desk.memory = omega (arith, none, c.report.ensures.memory, f.counts.memory, t.counts.memory) in
      let read = at_end _ _ _ inv.0 c.in-Ok-read.count c.read.new.piece c.if-count-eq0.true inv.1 c.in-Ok-read.ensures.bytes.0 in
      let p = inv.4 spare first in
      keeps_run g.K.Keeper.contents c.args.engine.now c.loop-turn.engine c.finish.new.engine inv.0 _ _ c.loop-turn.desk read c.loop-turn.invariant.rules p (λ open_none no_post. c.in_ok-finish.ensures.keeps (c.loop-turn.invariant.spare (inr first) spare) p.rest p.line open_none no_post later);
  work = c.report.ensures.work ∙ c.work.ensures;
  by = by_both g.K.Keeper.contents g.K.Keeper.memories c.args.engine.now c.loop-turn.engine c.finish.new.engine c.loop-turn.invariant.by
      c.in_ok-finish.ensures.goes.by;
  went = went_over g.K.Keeper.contents g.K.Keeper.memories c.args.engine.now c.finish.new.engine
      (by_both g.K.Keeper.contents g.K.Keeper.memories c.args.engine.now c.loop-turn.engine c.finish.new.engine c.loop-turn.invariant.by
      c.in_ok-finish.ensures.goes.by);
  spare = λ whole spare.
      let f = c.in_ok-finish.ensures.goes in
      let i = c.loop-turn.invariant in
      f.spare (whole_behind (rules_of c.args.engine.now) c.in-Ok.desk c.loop-turn.desk c.finish.new.desk c.report.result.memory
      c.report.ensures.memory c.in-Ok.ensures.memory i.wanted f.wanted whole (rules_of c.loop-turn.engine) i.rules)
      (i.spare (whole_before (rules_of c.args.engine.now) c.in-Ok.desk c.loop-turn.desk c.finish.new.desk c.report.result.memory
      c.report.ensures.memory c.in-Ok.ensures.memory i.wanted f.wanted whole) spare);
  rules = c.in_ok-finish.ensures.goes.rules ∙ c.loop-turn.invariant.rules;
  settings = c.in_ok-finish.ensures.goes.settings ∙ c.loop-turn.invariant.settings;
  sound = c.in_ok-finish.ensures.goes.sound;
}

pub returns-in_err-take_piece : goal.returns-in_err-take_piece
returns-in_err-take_piece g c = record {
  ran =
      let p = err_from_is_err_and c.from_residual-in_err-take_piece.result c.from_residual-in_err-take_piece.ensures.1 in
      let contents = g.W.Output.contents in
      let inv = c.loop-turn.invariant.so_far in
      let rules = rules_of c.args.engine.now in
      let slice = slice_of c.args.engine.now in
      let piece = take c.in-Ok-read.count c.read.new.piece in
      let t = inv.3 in
      let u = c.in_err-take_piece.ensures.takes.taken t.rest t.progress.open' t.line in
      let v = stops_under rules _ slice _ (state_of c.loop-turn.engine) (state_of c.take_piece.new.engine) t.rest piece (contents c.loop-turn.writer) (contents c.take_piece.new.writer) c.loop-turn.invariant.rules (same_slice c.loop-turn.invariant.settings) u.1 in
      rw (p.1, p.2, u.0) (cut_off rules slice _ _ (inv.0 ++ piece) _ _ _ _ (stopped_later rules slice _ _ _ [] inv.0 piece _ _ _ _ _ t v) (Consumes-trans _ _ _ _ _ inv.1 c.in-Ok-read.ensures.bytes.0));
  failed =
      let p = err_from_is_err_and c.from_residual-in_err-take_piece.result c.from_residual-in_err-take_piece.ensures.1 in
      let t = c.loop-turn.invariant.so_far.3 in
      let u = c.in_err-take_piece.ensures.takes.taken t.rest t.progress.open' t.line in
      rw (p.1, p.2, u.0) (then_calls _ _ _ false c.loop-turn.invariant.read c.in-Ok-read.ensures.failed, then_calls _ _ _ true c.loop-turn.invariant.written c.in_err-take_piece.ensures.takes.goes.failed);
  reads =
      let p = err_from_is_err_and c.from_residual-in_err-take_piece.result c.from_residual-in_err-take_piece.ensures.1 in
      let t = c.loop-turn.invariant.so_far.3 in
      let u = c.in_err-take_piece.ensures.takes.taken t.rest t.progress.open' t.line in
      rw (p.1, p.2, u.0) (c.loop-turn.turn + 1, omega arith, counted_on _ _ _ c.loop-turn.turn 1 c.loop-turn.invariant.reads c.in-Ok-read.ensures.counted);
  ended =
      let p = err_from_is_err_and c.from_residual-in_err-take_piece.result c.from_residual-in_err-take_piece.ensures.1 in
      let t = c.loop-turn.invariant.so_far.3 in
      let u = c.in_err-take_piece.ensures.takes.taken t.rest t.progress.open' t.line in
      rw (p.1, p.2, u.0) tt;
  sent =
      let p = err_from_is_err_and c.from_residual-in_err-take_piece.result c.from_residual-in_err-take_piece.ensures.1 in
      let t = c.loop-turn.invariant.so_far.3 in
      let u = c.in_err-take_piece.ensures.takes.taken t.rest t.progress.open' t.line in
      rw (p.1, p.2, u.0) (λ well none. absurd (true≢false well));
  each =
      let r = c.from_residual-in_err-take_piece in
      let p = err_from_is_err_and r.result r.ensures.1 in
      let t = c.loop-turn.invariant.so_far.3 in
      let u = c.in_err-take_piece.ensures.takes.taken t.rest t.progress.open' t.line in
      rw (p.1, p.2, u.0) (λ off well. absurd (true≢false well));
  keeps = λ spare. let p = err_from_is_err_and c.from_residual-in_err-take_piece.result c.from_residual-in_err-take_piece.ensures.1 in rw p.1 tt;
  work = let p = err_from_is_err_and c.from_residual-in_err-take_piece.result c.from_residual-in_err-take_piece.ensures.1 in rw p.1 tt;
  by = by_both g.K.Keeper.contents g.K.Keeper.memories c.args.engine.now c.loop-turn.engine c.take_piece.new.engine c.loop-turn.invariant.by
      c.in_err-take_piece.ensures.takes.goes.by;
  went = went_over g.K.Keeper.contents g.K.Keeper.memories c.args.engine.now c.take_piece.new.engine
      (by_both g.K.Keeper.contents g.K.Keeper.memories c.args.engine.now c.loop-turn.engine c.take_piece.new.engine c.loop-turn.invariant.by
      c.in_err-take_piece.ensures.takes.goes.by);
  spare = λ whole spare.
      let p = err_from_is_err_and c.from_residual-in_err-take_piece.result c.from_residual-in_err-take_piece.ensures.1 in
      let none = subst (λ (r : Result Report RunFault). KeepsWhole (rules_of c.args.engine.now) r) p.1 whole in
      c.in_err-take_piece.ensures.takes.goes.spare (inl (subst HasNoneCircular (sym c.loop-turn.invariant.rules) none))
      (c.loop-turn.invariant.spare (inl none) spare);
  rules = c.in_err-take_piece.ensures.takes.goes.rules ∙ c.loop-turn.invariant.rules;
  settings = c.in_err-take_piece.ensures.takes.goes.settings ∙ c.loop-turn.invariant.settings;
  sound = c.in_err-take_piece.ensures.takes.goes.sound;
}

pub returns-in-Err : goal.returns-in-Err
returns-in-Err g c = record {
  ran =
      let inv = c.loop-turn.invariant.so_far in
      broke_off (rules_of c.args.engine.now) (slice_of c.args.engine.now) (state_of c.args.engine.now) (state_of c.loop-turn.engine) inv.0 _ _ _ _ c.in-Ok.desk c.loop-turn.desk 0 inv.3 (Consumes-kept _ _ _ inv.0 inv.1 c.in-Err.ensures.bytes) (omega arith);
  failed = (then_calls _ _ _ true c.loop-turn.invariant.read c.in-Err.ensures.failed, c.loop-turn.invariant.written);
  reads = (c.loop-turn.turn + 1, omega arith, counted_on _ _ _ c.loop-turn.turn 1 c.loop-turn.invariant.reads c.in-Err.ensures.counted);
  ended = then_calls _ _ _ false c.loop-turn.invariant.ended c.in-Err.ensures.ended;
  sent = λ well none. c.loop-turn.invariant.sent none;
  each = λ off well. c.loop-turn.invariant.each off;
  keeps = λ spare. tt;
  work = tt;
  by = c.loop-turn.invariant.by;
  went = went_over g.K.Keeper.contents g.K.Keeper.memories c.args.engine.now c.loop-turn.engine
      c.loop-turn.invariant.by;
  spare = λ none. c.loop-turn.invariant.spare (inl none);
  rules = c.loop-turn.invariant.rules;
  settings = c.loop-turn.invariant.settings;
  sound = c.loop-turn.invariant.sound;
}

pub loop-turn-preserved : goal.loop-turn-preserved
loop-turn-preserved g c =
    let contents = g.W.Output.contents in
    let inv = c.loop-turn.invariant.so_far in
    let rules = rules_of c.args.engine.now in
    let slice = slice_of c.args.engine.now in
    let piece = take c.in-Ok-read.count c.read.new.piece in
    let t = inv.3 in
    let u = c.in_ok-take_piece.ensures.takes.taken t.rest t.progress.open' t.line in
    let v = takes_under rules _ slice _ (state_of c.loop-turn.engine) (state_of c.take_piece.new.engine) t.rest piece c.loop-turn.desk c.take_piece.new.desk (contents c.loop-turn.writer) (contents c.take_piece.new.writer) c.loop-turn.invariant.rules (same_slice c.loop-turn.invariant.settings) u in
    let brought : 0 < c.in-Ok-read.count = omega (arith, c.if-count-eq0.false) in
    let some : c.loop-turn.turn + 1 ≤ length (inv.0 ++ piece) = omega (arith, inv.2, length-append inv.0 piece, c.in-Ok-read.ensures.bound.1, c.if-count-eq0.false) in
    let keeps : IsSpare g.K.Keeper.contents c.args.engine.now → c.take_piece.new.desk.memory ≡ c.in-Ok.desk.memory
    → KeepsBytes g.K.Keeper.contents [] (inv.0 ++ piece) c.args.engine.now c.take_piece.new.engine c.take_piece.new.desk = λ spare whole.
    let first = c.loop-turn.invariant.wanted in
    let last = c.in_ok-take_piece.ensures.takes.goes.wanted in
    let so_far : c.loop-turn.desk.memory ≡ c.in-Ok.desk.memory = omega (arith, first, last, whole) in
    let later : c.take_piece.new.desk.memory ≡ c.loop-turn.desk.memory = omega (arith, first, last, whole) in
    let p = inv.4 spare so_far in
    let q = c.in_ok-take_piece.ensures.takes.keeps (c.loop-turn.invariant.spare (inr so_far) spare) later p.rest p.open' p.line in
    keeps_more g.K.Keeper.contents c.args.engine.now c.loop-turn.engine c.take_piece.new.engine [] inv.0 piece c.loop-turn.desk c.take_piece.new.desk c.loop-turn.invariant.rules p q in
    record {
      so_far = (inv.0 ++ piece, Consumes-trans _ _ _ _ _ inv.1 c.in-Ok-read.ensures.bytes.0, some, took_more rules slice _ _ _ [] inv.0 piece _ _ _ _ _ _ t v, keeps);
      read = then_calls _ _ _ false c.loop-turn.invariant.read c.in-Ok-read.ensures.failed;
      ended = then_calls _ _ _ false c.loop-turn.invariant.ended (subst (Remembers _ _) (not_zero c.in-Ok-read.count brought) c.in-Ok-read.ensures.ended);
      reads = counted_on _ _ _ c.loop-turn.turn 1 c.loop-turn.invariant.reads c.in-Ok-read.ensures.counted;
      written = then_calls _ _ _ false c.loop-turn.invariant.written c.in_ok-take_piece.ensures.takes.goes.failed;
      sent = λ none. c.in_ok-take_piece.ensures.sent (c.loop-turn.invariant.sent none);
      each = λ off.
          each_then g.K.Keeper.contents g.K.Keeper.memories g.W.Output.contents g.W.Output.failed
          g.W.Output.waits c.args.engine.now c.loop-turn.engine c.args.writer.now
          c.loop-turn.writer c.take_piece.new.engine c.take_piece.new.writer
          (c.loop-turn.invariant.each off) (c.in_ok-take_piece.ensures.each off);
      by = by_both g.K.Keeper.contents g.K.Keeper.memories c.args.engine.now c.loop-turn.engine c.take_piece.new.engine c.loop-turn.invariant.by
          c.in_ok-take_piece.ensures.takes.goes.by;
      spare = λ whole spare.
          let one = c.in_ok-take_piece.ensures.takes.goes in
          let i = c.loop-turn.invariant in
          one.spare (later_whole c.args.engine.now c.loop-turn.engine c.in-Ok.desk c.loop-turn.desk c.loop-turn.desk c.take_piece.new.desk i.rules refl
          i.wanted one.wanted whole)
          (i.spare (first_whole c.args.engine.now c.loop-turn.engine c.in-Ok.desk c.loop-turn.desk c.loop-turn.desk c.take_piece.new.desk refl i.wanted
          one.wanted whole) spare);
      wanted = omega (arith, c.loop-turn.invariant.wanted, c.in_ok-take_piece.ensures.takes.goes.wanted);
      rules = c.in_ok-take_piece.ensures.takes.goes.rules ∙ c.loop-turn.invariant.rules;
      settings = c.in_ok-take_piece.ensures.takes.goes.settings ∙ c.loop-turn.invariant.settings;
      sound = c.in_ok-take_piece.ensures.takes.goes.sound;
      open_few = c.loop-turn.invariant.open_few;
      few = omega (arith, c.in_ok-take_piece.ensures.takes.goes.grows, c.loop-turn.invariant.few, c.in-Ok-read.ensures.bound.1, c.in-Ok-read.ensures.bound.0, c.read.auto.piece);
    }

pub returns : goal.returns
returns g c = record {
  ran =
      let inv = c.loop-turn.invariant.so_far in
      broke_off (rules_of c.args.engine.now) (slice_of c.args.engine.now) (state_of c.args.engine.now) (state_of c.loop-turn.engine) inv.0 _ _ _ _ c.in-Ok.desk c.loop-turn.desk c.args.limit inv.3 inv.1 (omega (arith, inv.2));
  failed = (c.loop-turn.invariant.read, c.loop-turn.invariant.written);
  reads = (c.loop-turn.turn, omega arith, c.loop-turn.invariant.reads);
  ended = c.loop-turn.invariant.ended;
  sent = λ well none. c.loop-turn.invariant.sent none;
  each = λ off well. c.loop-turn.invariant.each off;
  keeps = λ spare. tt;
  work = tt;
  by = c.loop-turn.invariant.by;
  went = went_over g.K.Keeper.contents g.K.Keeper.memories c.args.engine.now c.loop-turn.engine
      c.loop-turn.invariant.by;
  spare = λ none. c.loop-turn.invariant.spare (inl none);
  rules = c.loop-turn.invariant.rules;
  settings = c.loop-turn.invariant.settings;
  sound = c.loop-turn.invariant.sound;
}

pub returns-in_default : goal.returns-in_default
returns-in_default g c = record {
  ran = record { state = refl; read = refl; written = refl };
  failed = (no_call _, no_call _);
  reads = (0, refl, none_counted _);
  ended = no_call _;
  sent = λ well none. none;
  each = λ off well. sends_nothing;
  by = nowhere;
  went = went_over g.K.Keeper.contents g.K.Keeper.memories c.args.engine.now c.args.engine.now
      nowhere;
  keeps = λ spare. tt;
  work = tt;
  spare = λ none spare. spare;
  rules = refl;
  settings = refl;
  sound = c.requires.sound;
}

use Rattle.std.proofs.Common.{inl, inr, ◌≡◌, ◌∙◌, ◌+◌, ◌≤◌, sym, ap, subst, List, ℕ, [], ◌∷◌, ◌++◌, length, append_assoc, length-append, arith, refl, Ok}
use Rattle.std.specs.Prelude.{is_err}
use Rattle.std.proofs.lemmas.Result.{err_from_is_err_and}
use Rattle.at_engine.specs.Going.{sends_nothing, unsaid}
use Rattle.at_engine.specs.Loop.{lets_wait}
use Rattle.at_engine.specs.Taking.{Takes, Stops}
use Rattle.at_engine.specs.KeepingRuns.{KeepsBytes}
use Rattle.at_engine.specs.Engines.{state_of, rules_of, slice_of}
use Rattle.at_engine.proofs.of_keeping.KeepingBytes.{keeps_more, keeps_none, keeps_on}
use Rattle.at_engine.proofs.GoingLemmas.{goes_alike, goes_nowhere, goes_on, same_slice}
use Rattle.at_engine.proofs.Takings.{took_nothing, took_more, took_on, takes_under, stopped_later, stopped_before, stops_under}
use Rattle.at_engine.proofs.of_turns.Waiting.{each_then, may_wait, waits_or_filled, waits_no_more}
use Rattle.at_engine.proofs.stream.take_piece.Goals as goal

-- the bytes behind those that were taken, cut at the newline
cut : (piece done line behind rest : List ℕ) → piece ≡ done ++ rest → rest ≡ line ++ 10 ∷ behind → ((done ++ line) ++ 10 ∷ []) ++ behind ≡ piece
cut piece done line behind rest is at =
    append_assoc (done ++ line) (10 ∷ []) behind ∙ append_assoc done line (10 ∷ behind) ∙ ap (λ l. done ++ l) (sym at) ∙ sym is

pub loop-line-init : goal.loop-line-init
loop-line-init g c = (
  [],
  record {
    split = refl;
    taken = λ front o e. took_nothing _ _ _ front c.args.desk.now _ o e;
    keeps = λ spare whole front o e.
        keeps_none g.K.Keeper.contents c.args.engine.now front c.args.desk.now o e;
    goes = goes_nowhere g.K.Keeper.contents g.K.Keeper.memories g.W.Output.failed unsaid
        c.args.engine.now c.args.desk.now _ _ 0 tt c.requires.sound refl refl;
    each = λ off. sends_nothing;
    sent = λ none. inl none;
  },
)

pub take_newline-requires : goal.take_newline-requires
take_newline-requires g c =
    let (done, inv) = c.loop-line.invariant in
    let line = c.in-Some.line.now in
    let behind = c.in-Some.behind.now in
    record {
      sound = inv.goes.sound;
      few = omega (arith, c.requires.few, inv.goes.grows, c.keep.ensures.lines, c.keep.ensures.memory, ap length inv.split, length-append done c.loop-line.rest.now, ap length c.in-Some.ensures.1, length-append line (10 ∷ behind));
    }

pub returns-in_err-take_newline-clause-takes : goal.returns-in_err-take_newline-clause-takes
returns-in_err-take_newline-clause-takes g c = record {
  taken = λ front o e.
      let p = err_from_is_err_and c.from_residual.result c.from_residual.ensures.1 in
      let (done, inv) = c.loop-line.invariant in
      let (open', at) = c.in-Some.ensures in
      let line = c.in-Some.line.now in
      let behind = c.in-Some.behind.now in
      let contents = g.W.Output.contents in
      let rules = rules_of c.args.engine.now in
      let slice = slice_of c.args.engine.now in
      let t = took_on rules slice _ _ front done line _ _ c.keep.new.self _ _ (inv.taken front o e) open' c.keep.ensures.line c.keep.ensures.lines c.keep.ensures.memory in
      let u = c.in_err-take_newline.ensures.takes.taken t.rest t.progress.open' t.line in
      let v = stops_under rules (rules_of c.loop-line.engine) slice (slice_of c.loop-line.engine) (state_of c.loop-line.engine) (state_of c.take_newline.new.engine) t.rest (10 ∷ []) (contents c.loop-line.writer) (contents c.take_newline.new.writer) inv.goes.rules (same_slice inv.goes.settings) u.1 in
      let w = stopped_before rules slice _ _ front _ behind _ _ (stopped_later rules slice _ _ _ front (done ++ line) (10 ∷ []) _ _ _ _ _ t v) in
      rw (p.1, p.2) (u.0, subst (λ (l : List ℕ). Stops rules slice (state_of c.args.engine.now) front l (state_of c.take_newline.new.engine) (contents c.args.writer.now) (contents c.take_newline.new.writer)) (cut c.args.piece.now done line behind c.loop-line.rest.now inv.split at) w);
  keeps = λ spare whole front o e. let p = err_from_is_err_and c.from_residual.result c.from_residual.ensures.1 in rw p.1 tt;
  goes =
      let p = err_from_is_err_and c.from_residual.result c.from_residual.ensures.1 in
      let (done, inv) = c.loop-line.invariant in
      let line = c.in-Some.line.now in
      let few : length done + 1 ≤ length c.args.piece.now = omega (arith, ap length inv.split, length-append done c.loop-line.rest.now, ap length c.in-Some.ensures.1, length-append line (10 ∷ c.in-Some.behind.now)) in
      goes_on g.K.Keeper.contents g.K.Keeper.memories g.W.Output.failed unsaid _ _ _ _ _ _ _ _ _ _ (length done) 1 (length c.args.piece.now) tt c.from_residual.result inv.goes c.keep.ensures.lines c.keep.ensures.memory few
      (goes_alike g.K.Keeper.contents g.K.Keeper.memories g.W.Output.failed unsaid _ _ _ _ _ _ 1 _ c.from_residual.result (ap is_err (sym p.1)) c.in_err-take_newline.ensures.takes.goes);
}

pub loop-line-smaller : goal.loop-line-smaller
loop-line-smaller g c =
    let line = c.in-Some.line.now in
    omega (arith, ap length c.in-Some.ensures.1, length-append line (10 ∷ c.in-Some.behind.now))

pub loop-line-preserved : goal.loop-line-preserved
loop-line-preserved g c =
    let (done, inv) = c.loop-line.invariant in
    let (open', at) = c.in-Some.ensures in
    let line = c.in-Some.line.now in
    let behind = c.in-Some.behind.now in
    let contents = g.W.Output.contents in
    let rules = rules_of c.args.engine.now in
    let slice = slice_of c.args.engine.now in (
      (done ++ line) ++ 10 ∷ [],
      record {
        split = sym (cut c.args.piece.now done line behind c.loop-line.rest.now inv.split at);
        taken = λ front o e.
            let t = took_on rules slice _ _ front done line _ _ c.keep.new.self _ _ (inv.taken front o e) open' c.keep.ensures.line c.keep.ensures.lines c.keep.ensures.memory in
            let u = c.in_ok-take_newline.ensures.takes.taken t.rest t.progress.open' t.line in
            let v = takes_under rules (rules_of c.loop-line.engine) slice (slice_of c.loop-line.engine) (state_of c.loop-line.engine) (state_of c.take_newline.new.engine) t.rest (10 ∷ []) c.keep.new.self c.take_newline.new.desk (contents c.loop-line.writer) (contents c.take_newline.new.writer) inv.goes.rules (same_slice inv.goes.settings) u in
            took_more rules slice _ _ _ front (done ++ line) (10 ∷ []) _ _ _ _ _ _ t v;
        keeps = λ spare whole front o e.
            let first = inv.goes.wanted in
            let last = c.in_ok-take_newline.ensures.takes.goes.wanted in
            let kept_so = c.keep.ensures.memory in
            let so_far : c.loop-line.desk.memory ≡ c.args.desk.now.memory = omega (arith, first, last, kept_so, whole) in
            let later : c.take_newline.new.desk.memory ≡ c.keep.new.self.memory = omega (arith, first, last, kept_so, whole) in
            let p = keeps_on g.K.Keeper.contents c.args.engine.now c.loop-line.engine front done line c.loop-line.desk c.keep.new.self inv.goes.rules open' c.keep.ensures.line (inv.keeps spare so_far front o e) in
            let q = c.in_ok-take_newline.ensures.takes.keeps (inv.goes.spare (inr so_far) spare) later p.rest p.open' p.line in
            keeps_more g.K.Keeper.contents c.args.engine.now c.loop-line.engine c.take_newline.new.engine front (done ++ line) (10 ∷ []) c.keep.new.self c.take_newline.new.desk inv.goes.rules p q;
        goes = goes_on g.K.Keeper.contents g.K.Keeper.memories g.W.Output.failed unsaid _ _ _ _ _ _ _ _ _ _ (length done) 1 (length ((done ++ line) ++ 10 ∷ [])) tt (Ok tt) inv.goes c.keep.ensures.lines c.keep.ensures.memory
            (omega (arith, length-append (done ++ line) (10 ∷ []), length-append done line)) c.in_ok-take_newline.ensures.takes.goes;
        each = λ off.
            each_then g.K.Keeper.contents g.K.Keeper.memories contents g.W.Output.failed
            g.W.Output.waits
            c.args.engine.now c.loop-line.engine c.args.writer.now c.loop-line.writer c.take_newline.new.engine
            c.take_newline.new.writer (inv.each off)
            (c.in_ok-take_newline.ensures.each (ap lets_wait (c.next_line.ensures.never off)));
        sent = λ none. may_wait (g.W.Output.waits c.take_newline.new.writer) (c.next_line.result) behind c.next_line.ensures.next
            (λ no_next. c.in_ok-take_newline.ensures.sent no_next (waits_or_filled c.loop-line.rest.now line behind c.keep.new.self c.loop-line.desk (g.W.Output.waits c.loop-line.writer) open' at c.keep.ensures.line (inv.sent none)));
      },
    )

pub returns-clause-takes : goal.returns-clause-takes
returns-clause-takes g c = record {
  taken = λ front o e.
      let (done, inv) = c.loop-line.invariant in
      let rules = rules_of c.args.engine.now in
      let slice = slice_of c.args.engine.now in
      let contents = g.W.Output.contents in
      let t = took_on rules slice _ _ front done c.loop-line.rest.now _ _ c.keep-2.new.self _ _ (inv.taken front o e) c.in_default.ensures c.keep-2.ensures.line c.keep-2.ensures.lines c.keep-2.ensures.memory in
      subst (λ (l : List ℕ). Takes rules slice (state_of c.args.engine.now) front l (state_of c.loop-line.engine) c.args.desk.now c.keep-2.new.self (contents c.args.writer.now) (contents c.loop-line.writer)) (sym inv.split) t;
  keeps = λ spare whole front o e.
      let (done, inv) = c.loop-line.invariant in
      let so_far : c.loop-line.desk.memory ≡ c.args.desk.now.memory = sym c.keep-2.ensures.memory ∙ whole in
      let p = keeps_on g.K.Keeper.contents c.args.engine.now c.loop-line.engine front done c.loop-line.rest.now c.loop-line.desk c.keep-2.new.self inv.goes.rules c.in_default.ensures c.keep-2.ensures.line (inv.keeps spare so_far front o e) in
      subst (λ (l : List ℕ). KeepsBytes g.K.Keeper.contents front l c.args.engine.now c.loop-line.engine c.keep-2.new.self) (sym inv.split) p;
  goes =
      let (done, inv) = c.loop-line.invariant in
      let few : length done + 0 ≤ length c.args.piece.now = omega (arith, ap length inv.split, length-append done c.loop-line.rest.now) in
      goes_on g.K.Keeper.contents g.K.Keeper.memories g.W.Output.failed unsaid _ _ _ _ _ _ _ _ _ _ (length done) 0 (length c.args.piece.now) tt (Ok tt) inv.goes refl refl few
      (goes_nowhere g.K.Keeper.contents g.K.Keeper.memories g.W.Output.failed unsaid c.loop-line.engine c.loop-line.desk c.keep-2.new.self c.loop-line.writer 0 tt inv.goes.sound c.keep-2.ensures.lines c.keep-2.ensures.memory);
}

pub returns-clause-sent : goal.returns-clause-sent
returns-clause-sent g c = λ none.
    let (done, inv) = c.loop-line.invariant in
    waits_no_more (g.W.Output.waits c.loop-line.writer) c.loop-line.rest.now c.in_default.ensures (inv.sent none)

pub returns-in_err-take_newline-clause-sent : goal.returns-in_err-take_newline-clause-sent
returns-in_err-take_newline-clause-sent g c =
    let p = err_from_is_err_and c.from_residual.result c.from_residual.ensures.1 in rw p.1 tt

pub returns-clause-each : goal.returns-clause-each
returns-clause-each g c = λ off. let (done, inv) = c.loop-line.invariant in inv.each off

pub returns-in_err-take_newline-clause-each : goal.returns-in_err-take_newline-clause-each
returns-in_err-take_newline-clause-each g c = λ off.
    let p = err_from_is_err_and c.from_residual.result c.from_residual.ensures.1 in rw p.1 tt

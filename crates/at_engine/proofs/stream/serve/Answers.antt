use Rattle.std.proofs.Common.{◌≡◌, false, ◌∙◌, ◌+◌, if◌then◌else◌, sym, ap, subst, List, ℕ, ◌++◌, arith, Ok, refl}
use Rattle.std.specs.Io.KnownBytes.{Appends}
use Rattle.std.proofs.lemmas.Result.{err_from_is_err_and}
use Rattle.at_model.specs.Machine.{Serves}
use Rattle.at_model.specs.Replies.{reply_text}
use Rattle.at_engine.specs.Engines.{state_of, rules_of, slice_of}
use Rattle.at_engine.specs.Keeping.{KeepsServed}
use Rattle.at_engine.proofs.of_turns.Giving.{counts_served, halts_in_line, then_turns}
use Rattle.at_engine.proofs.of_keeping.KeepingBytes.{kept_behind}
use Rattle.at_engine.specs.Going.{unsaid}
use Rattle.at_engine.specs.Loop.{lets_wait}
use Rattle.at_engine.specs.Stepping.{by_line, nowhere}
use Rattle.at_engine.proofs.GoingLemmas.{goes_on, goes_unsaid, goes_wrote, same_slice, served_whole_so}
use Rattle.at_engine.proofs.Remembering.{sent_where}
use Rattle.at_engine.proofs.stream.serve.Goals as goal

-- the line in the words of the engine's call
pub give_turns-requires : goal.give_turns-requires
give_turns-requires g c =
    let old = c.args.engine.now in
    let call = c.in-Ok.ensures in
    let s = call.done.served in
    let serves = subst (λ (l : List ℕ). Serves (rules_of old) (state_of old) l (state_of c.serve.new.self) (c.in-Ok.wants, s.0)) c.as_slice.ensures.value s.1.serves in
    record {
      sound = call.sound;
      few = omega (arith, c.requires.ready.few, counts_served (rules_of old) (state_of old) (state_of c.serve.new.self) c.args.desk.now.line.items (c.in-Ok.wants, s.0) c.args.desk.now c.count_answer.new.self serves (c.count_answer.ensures.rest.0 ∙ c.count_line.ensures.lines) (c.count_answer.ensures.memory ∙ ap (λ n. n + (if c.in-Ok.wants then 1 else 0)) c.count_line.ensures.rest.0));
    }

pub returns-in_err-write_whole-in-Ok-clause-serves : goal.returns-in_err-write_whole-in-Ok-clause-serves
returns-in_err-write_whole-in-Ok-clause-serves g c =
    let p = err_from_is_err_and c.from_residual.result c.from_residual.ensures.1 in
    let w = c.in_err-write_whole-in-Ok.ensures.written in
    let old = c.args.engine.now in
    let call = c.in-Ok.ensures in
    let s = call.done.served in
    let text = c.as_slice-in-Ok.ensures.value ∙ c.count_answer.ensures.rest.2 ∙ c.count_line.ensures.rest.2 ∙ s.2 ∙ ap (λ l. l ++ reply_text s.0) c.clear.ensures.items in
    let serves = subst (λ (l : List ℕ). Serves (rules_of old) (state_of old) l (state_of c.serve.new.self) (c.in-Ok.wants, s.0)) c.as_slice.ensures.value s.1.serves in
    let memory = c.count_answer.ensures.memory ∙ ap (λ n. n + (if c.in-Ok.wants then 1 else 0)) c.count_line.ensures.rest.0 in
    record {
      served = rw (p.1, p.2) (w.0, halts_in_line (rules_of old) (slice_of old) _ _ c.args.desk.now.line.items (c.in-Ok.wants, s.0) _ _ w.1 w.2 serves (sym text ∙ w.3) w.4);
      keeps = λ spare. rw p.1 tt;
      line = c.count_answer.ensures.rest.1 ∙ c.count_line.ensures.rest.1;
      goes = goes_wrote g.K.Keeper.contents g.K.Keeper.memories g.W.Output.failed unsaid _ _ c.args.desk.now _ _ _ 1 _ _ c.from_residual.result call
          (λ whole spare. call.done.spare (served_whole_so (rules_of old) c.in-Ok.wants c.args.desk.now c.count_answer.new.self memory whole) spare)
          (omega (arith, memory)) (rw p.1 c.in_err-write_whole-in-Ok.ensures.failed) (rw p.1 tt)
          (by_line old c.serve.new.self _ _ _ c.in-Ok.wants nowhere call.done)
          (omega (arith, counts_served (rules_of old) (state_of old) (state_of c.serve.new.self) c.args.desk.now.line.items (c.in-Ok.wants, s.0) c.args.desk.now c.count_answer.new.self serves (c.count_answer.ensures.rest.0 ∙ c.count_line.ensures.lines) (c.count_answer.ensures.memory ∙ ap (λ n. n + (if c.in-Ok.wants then 1 else 0)) c.count_line.ensures.rest.0)));
    }

pub returns-clause-serves : goal.returns-clause-serves
returns-clause-serves g c =
    let contents = g.W.Output.contents in
    let old = c.args.engine.now in
    let mid = c.serve.new.self in
    let call = c.in-Ok.ensures in
    let s = call.done.served in
    let text = c.as_slice-in-Ok.ensures.value ∙ c.count_answer.ensures.rest.2 ∙ c.count_line.ensures.rest.2 ∙ s.2 ∙ ap (λ l. l ++ reply_text s.0) c.clear.ensures.items in
    let serves = subst (λ (l : List ℕ). Serves (rules_of old) (state_of old) l (state_of mid) (c.in-Ok.wants, s.0)) c.as_slice.ensures.value s.1.serves in
    let written = subst (Appends (contents c.args.writer.now) (contents c.write_whole.new.writer)) text c.in_ok-write_whole-in-Ok.ensures.written in
    let turns = c.give_turns.ensures in
    let memory = c.count_answer.ensures.memory ∙ ap (λ n. n + (if c.in-Ok.wants then 1 else 0)) c.count_line.ensures.rest.0 in
    let counted = counts_served (rules_of old) (state_of old) (state_of mid) c.args.desk.now.line.items (c.in-Ok.wants, s.0) c.args.desk.now c.count_answer.new.self serves (c.count_answer.ensures.rest.0 ∙ c.count_line.ensures.lines) (c.count_answer.ensures.memory ∙ ap (λ n. n + (if c.in-Ok.wants then 1 else 0)) c.count_line.ensures.rest.0) in
    record {
      served = then_turns c.give_turns.result (rules_of old) (rules_of mid) (slice_of old) (slice_of mid) (state_of old) (state_of mid) (state_of c.give_turns.new.engine) c.args.desk.now.line.items (c.in-Ok.wants, s.0) c.args.desk.now _ c.give_turns.new.desk _ _ _
          turns.done call.rules (same_slice call.settings) serves (c.count_answer.ensures.rest.0 ∙ c.count_line.ensures.lines) (c.count_answer.ensures.memory ∙ ap (λ n. n + (if c.in-Ok.wants then 1 else 0)) c.count_line.ensures.rest.0) written;
      keeps = λ spare.
          let keeps = subst (λ (l : List ℕ). KeepsServed g.K.Keeper.contents c.in-Ok.wants l old mid) c.as_slice.ensures.value (call.done.keeps spare) in
          kept_behind c.give_turns.result g.K.Keeper.contents old mid c.give_turns.new.engine (rules_of mid) (slice_of mid) c.args.desk.now.line.items (c.in-Ok.wants, s.0) c.args.desk.now _ c.give_turns.new.desk _ _
          turns.done turns.none serves keeps (c.count_answer.ensures.memory ∙ ap (λ n. n + (if c.in-Ok.wants then 1 else 0)) c.count_line.ensures.rest.0);
      line = turns.line ∙ c.count_answer.ensures.rest.1 ∙ c.count_line.ensures.rest.1;
      goes = goes_on g.K.Keeper.contents g.K.Keeper.memories g.W.Output.failed unsaid _ _ _ _ _ _ _ _ _ _ 1 0 1 (tt {0}) c.give_turns.result
          (goes_wrote g.K.Keeper.contents g.K.Keeper.memories g.W.Output.failed unsaid _ _ c.args.desk.now c.count_answer.new.self _ _ 1 _ _ (Ok (tt {0})) call
          (λ whole spare. call.done.spare (served_whole_so (rules_of old) c.in-Ok.wants c.args.desk.now c.count_answer.new.self memory whole) spare)
          (omega (arith, memory)) c.in_ok-write_whole-in-Ok.ensures.failed refl
          (by_line old c.serve.new.self _ _ _ c.in-Ok.wants nowhere call.done) (omega (arith, counted)))
          refl refl (omega arith)
          (goes_unsaid g.K.Keeper.contents g.K.Keeper.memories g.W.Output.failed g.W.Output.waits _ _ _ _ _ _ 0 c.give_turns.result turns.goes);
    }

pub returns-clause-sent : goal.returns-clause-sent
returns-clause-sent g c =
    sent_where (lets_wait c.args.next ≡ false) c.give_turns.result _ _ (λ none. c.in_ok-write_whole-in-Ok.ensures.sent (c.is_due-due.ensures none)) c.give_turns.ensures.goes.sent

pub returns-in_err-write_whole-in-Ok-clause-sent : goal.returns-in_err-write_whole-in-Ok-clause-sent
returns-in_err-write_whole-in-Ok-clause-sent g c =
    let p = err_from_is_err_and c.from_residual.result c.from_residual.ensures.1 in rw p.1 tt

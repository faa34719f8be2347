use Rattle.std.proofs.Common.{◌∙◌, sym, ap, subst, arith, refl, ◌+◌, ◌++◌, ◌∷◌, [], if◌then◌else◌}
use Rattle.std.specs.Io.KnownBytes.{Appends}
use Rattle.std.proofs.lemmas.Result.{err_from_is_err_and}
use Rattle.at_model.specs.Replies.{reply_text}
use Rattle.at_engine.specs.Engines.{rules_of}
use Rattle.at_engine.proofs.GoingLemmas.{given_whole, goes_wrote, quiet_whole}
use Rattle.at_engine.proofs.Remembering.{no_call}
use Rattle.at_engine.proofs.of_turns.Giving.{are_left_then, counted_within, counts_one, fewer_given, gave_one, given_spare, has_answer, has_gone, no_more_open, none_changed, quiet_leaves, stops_at_one}
use Rattle.at_engine.proofs.stream.give_some.Goals as goal

pub count_answer-requires : goal.count_answer-requires
count_answer-requires g c =
    let a = has_answer g.K.Keeper.contents g.K.Keeper.memories c.args.limit _ _ _ _ c.in-Ok.spent c.in-Some.wants c.in-Some.is c.in-Ok.ensures.done in
    omega (arith, c.requires.ready.few, fewer_given (rules_of c.args.engine.now) a.given _ (a.said ∷ []) _ a.turns)

pub left_of-requires : goal.left_of-requires
left_of-requires g c =
    let a = has_answer g.K.Keeper.contents g.K.Keeper.memories c.args.limit _ _ _ _ c.in-Ok.spent c.in-Some.wants c.in-Some.is c.in-Ok.ensures.done in
    (counted_within c.args.limit a.given c.in-Ok.spent.turns a.said a.counts).0

pub returns-in_err-write_whole-in-Some : goal.returns-in_err-write_whole-in-Some
returns-in_err-write_whole-in-Some g c =
    let p = err_from_is_err_and c.from_residual.result c.from_residual.ensures.1 in
    let w = c.in_err-write_whole-in-Some.ensures.written in
    let rules = rules_of c.args.engine.now in
    let call = c.in-Ok.ensures in
    let a = has_answer g.K.Keeper.contents g.K.Keeper.memories c.args.limit _ _ _ _ c.in-Ok.spent c.in-Some.wants c.in-Some.is call.done in
    let text = c.as_slice.ensures.value ∙ c.count_answer.ensures.rest.2 ∙ a.text ∙ ap (λ l. l ++ reply_text a.said.1) c.clear.ensures.items in
    let memory = c.count_answer.ensures.memory ∙ ap (λ b. c.args.desk.now.memory + (if b then 1 else 0)) (sym a.names) in
    let within = (counted_within c.args.limit a.given c.in-Ok.spent.turns a.said a.counts).1 in
    record {
      done = rw (p.1, p.2) (
        w.0,
        a.given,
        within,
        stops_at_one rules a.given a.given _ _ _ _ a.said w.1 w.2
            (omega arith) a.turns (sym text ∙ w.3) w.4,
      );
      none = none_changed g.K.Keeper.contents g.K.Keeper.memories c.args.limit _ _ _ _ c.in-Ok.spent call.done;
      line = c.count_answer.ensures.rest.1;
      goes = goes_wrote g.K.Keeper.contents g.K.Keeper.memories g.W.Output.failed g.W.Output.waits _ _ c.args.desk.now _ _ _ 0 _ _
          c.from_residual.result call
          (λ whole. given_spare g.K.Keeper.contents g.K.Keeper.memories c.args.limit _ _ _ _ c.in-Ok.spent call.done
          (given_whole rules c.in-Ok.spent.told c.in-Some.wants c.in-Some.is c.args.desk.now c.count_answer.new.self c.count_answer.ensures.memory whole))
          (omega (arith, c.count_answer.ensures.memory)) (rw p.1 c.in_err-write_whole-in-Some.ensures.failed) (rw p.1 tt)
          (has_gone g.K.Keeper.contents g.K.Keeper.memories c.args.limit _ _ _ _ c.in-Ok.spent call.done)
          (omega (arith, c.count_answer.ensures.rest.0, memory, counts_one rules a.given _ _ a.said a.turns));
    }

pub returns-in_ok-write_whole-in-Some : goal.returns-in_ok-write_whole-in-Some
returns-in_ok-write_whole-in-Some g c =
    let contents = g.W.Output.contents in
    let rules = rules_of c.args.engine.now in
    let call = c.in-Ok.ensures in
    let a = has_answer g.K.Keeper.contents g.K.Keeper.memories c.args.limit _ _ _ _ c.in-Ok.spent c.in-Some.wants c.in-Some.is call.done in
    let text = c.as_slice.ensures.value ∙ c.count_answer.ensures.rest.2 ∙ a.text ∙ ap (λ l. l ++ reply_text a.said.1) c.clear.ensures.items in
    let written = subst (Appends (contents c.args.writer.now) (contents c.write_whole.new.writer)) text c.in_ok-write_whole-in-Some.ensures.written in
    let memory = c.count_answer.ensures.memory ∙ ap (λ b. c.args.desk.now.memory + (if b then 1 else 0)) (sym a.names) in
    record {
      done = record {
        turns = a.given;
        gives = gave_one rules a.given _ _ c.args.desk.now c.count_answer.new.self _ _ a.said a.turns c.count_answer.ensures.rest.0 memory written;
        are_left = are_left_then rules c.args.limit a.given c.in-Ok.spent.turns c.left_of.result _ _ a.said a.counts c.left_of.ensures a.some a.turns;
      };
      none = none_changed g.K.Keeper.contents g.K.Keeper.memories c.args.limit _ _ _ _ c.in-Ok.spent call.done;
      line = c.count_answer.ensures.rest.1;
      goes = goes_wrote g.K.Keeper.contents g.K.Keeper.memories g.W.Output.failed g.W.Output.waits _ _ c.args.desk.now _ _ _ 0 _ _ _ call
          (λ whole. given_spare g.K.Keeper.contents g.K.Keeper.memories c.args.limit _ _ _ _ c.in-Ok.spent call.done
          (given_whole rules c.in-Ok.spent.told c.in-Some.wants c.in-Some.is c.args.desk.now c.count_answer.new.self c.count_answer.ensures.memory whole))
          (omega (arith, c.count_answer.ensures.memory)) c.in_ok-write_whole-in-Some.ensures.failed (c.in_ok-write_whole-in-Some.ensures.sent refl)
          (has_gone g.K.Keeper.contents g.K.Keeper.memories c.args.limit _ _ _ _ c.in-Ok.spent call.done)
          (omega (arith, c.count_answer.ensures.rest.0, memory, counts_one rules a.given _ _ a.said a.turns));
    }

pub returns-in-None : goal.returns-in-None
returns-in-None g c =
    let call = c.in-Ok.ensures in
    record {
      done = quiet_leaves g.K.Keeper.contents g.K.Keeper.memories c.args.limit _ _ _ _ c.in-Ok.spent c.args.desk.now _ _ c.in-None.is call.done
          c.requires.some refl refl;
      none = none_changed g.K.Keeper.contents g.K.Keeper.memories c.args.limit _ _ _ _ c.in-Ok.spent call.done;
      line = refl;
      goes = record {
        failed = no_call _;
        by = has_gone g.K.Keeper.contents g.K.Keeper.memories c.args.limit _ _ _ _ c.in-Ok.spent call.done;
        sent = λ none. none;
        spare = λ whole. given_spare g.K.Keeper.contents g.K.Keeper.memories c.args.limit _ _ _ _ c.in-Ok.spent call.done
            (quiet_whole (rules_of c.args.engine.now) c.in-Ok.spent.told c.in-None.is);
        wanted = omega arith;
        rules = call.rules;
        settings = call.settings;
        grows = omega (arith, no_more_open g.K.Keeper.contents g.K.Keeper.memories c.args.limit _ _ _ _ c.in-Ok.spent call.done);
        sound = call.sound;
      };
    }

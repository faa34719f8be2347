use Rattle.std.proofs.Common.{Option, Ok, refl, subst}
use Rattle.std.proofs.lemmas.Result.{err_from_is_err_and}
use Rattle.std.specs.declared.alloc.AllocError.{AllocError}
use Rattle.at_demand.specs.declared.answer.Answer.{Answer as AnswerCode}
use Rattle.at_demand.specs.Answered.{HasTurnedOften}
use Rattle.at_demand.specs.Went.{begun}
use Rattle.at_engine.specs.Engines.{rules_of}
use Rattle.at_engine.proofs.of_turns.Trying.{begun_for, broke_off, can_be_turned, not_read, not_yet, ready_taken, sound_more, sparing_for, taken, told, untold, was_refused}
use Rattle.at_engine.proofs.engine.Engine.go_on.Goals as goal

pub begin-requires : goal.begin-requires
begin-requires g c =
    let e = c.args.self.now in
    let k = g.K.Keeper.contents in
    let m = g.K.Keeper.memories in
    let t = c.take-begun.new.self in
    let o = c.take-begun.result in
    let it = taken k m e c.requires.ready.sound c.args.position c.requires.ready.within o t c.take-begun.ensures in
    ready_taken k m e c.args.position c.args.limit o t it c.requires.ready.typed

pub returns-in_err-question-clause-attends : goal.returns-in_err-question-clause-attends
returns-in_err-question-clause-attends g c =
    let e = c.args.self.now in
    let k = g.K.Keeper.contents in
    let m = g.K.Keeper.memories in
    let t = c.take-begun.new.self in
    let o = c.take-begun.result in
    let it = taken k m e c.requires.ready.sound c.args.position c.requires.ready.within o t c.take-begun.ensures in
    let r = err_from_is_err_and c.from_residual.result c.from_residual.ensures.1 in
    not_read k m e c.args.position c.args.limit o t it c.from_residual.result r.0 r.1

pub returns-in-Refused-clause-attends : goal.returns-in-Refused-clause-attends
returns-in-Refused-clause-attends g c =
    let e = c.args.self.now in
    let k = g.K.Keeper.contents in
    let m = g.K.Keeper.memories in
    let t = c.take-begun.new.self in
    let o = c.take-begun.result in
    let it = taken k m e c.requires.ready.sound c.args.position c.requires.ready.within o t c.take-begun.ensures in
    was_refused k m e c.args.position c.args.limit o t it c.in_ok-question.ensures.begins c.in-Refused.refusal
    c.in-Refused.is c.requires.some

pub turns-requires-clause-can : goal.turns-requires-clause-can
turns-requires-clause-can g c =
    let e = c.args.self.now in
    let k = g.K.Keeper.contents in
    let m = g.K.Keeper.memories in
    let t = c.take-begun.new.self in
    let o = c.take-begun.result in
    let it = taken k m e c.requires.ready.sound c.args.position c.requires.ready.within o t c.take-begun.ensures in
    let b = begun_for k m e c.args.position c.args.limit o t it c.in_ok-question.ensures.begins c.in-Question.question c.in-Question.is in
    can_be_turned k m e c.args.position c.args.limit o t it c.requires.ready.typed c.in-Question.question b

pub turns-requires-clause-justified : goal.turns-requires-clause-justified
turns-requires-clause-justified g c =
    let e = c.args.self.now in
    let k = g.K.Keeper.contents in
    let m = g.K.Keeper.memories in
    let t = c.take-begun.new.self in
    let o = c.take-begun.result in
    let it = taken k m e c.requires.ready.sound c.args.position c.requires.ready.within o t c.take-begun.ensures in
    it.held.remembered.justified

pub told-requires : goal.told-requires
told-requires g c =
    let e = c.args.self.now in
    let k = g.K.Keeper.contents in
    let m = g.K.Keeper.memories in
    let i = c.args.position in
    let t = c.take-begun.new.self in
    let o = c.take-begun.result in
    let q = c.in-Question.question in
    let it = taken k m e c.requires.ready.sound i c.requires.ready.within o t c.take-begun.ensures in
    let b = begun_for k m e i c.args.limit o t it c.in_ok-question.ensures.begins q c.in-Question.is in
    let s = sparing_for k m e i c.args.limit o t it c.in_ok-question.ensures.sparing q c.in-Question.is in
    let d = c.turns.new.self in
    let p = c.turns.new.question in
    record { sound = sound_more k m e i c.args.limit o t it c.requires.ready.typed q b s d p c.turns.result c.turns.ensures.turned c.turns.ensures.traces }

pub returns-in_err-turns-clause-attends : goal.returns-in_err-turns-clause-attends
returns-in_err-turns-clause-attends g c =
    let e = c.args.self.now in
    let k = g.K.Keeper.contents in
    let m = g.K.Keeper.memories in
    let i = c.args.position in
    let t = c.take-begun.new.self in
    let o = c.take-begun.result in
    let q = c.in-Question.question in
    let it = taken k m e c.requires.ready.sound i c.requires.ready.within o t c.take-begun.ensures in
    let b = begun_for k m e i c.args.limit o t it c.in_ok-question.ensures.begins q c.in-Question.is in
    let s = sparing_for k m e i c.args.limit o t it c.in_ok-question.ensures.sparing q c.in-Question.is in
    let d = c.turns.new.self in
    let p = c.turns.new.question in
    let r = err_from_is_err_and c.from_residual-in_err-turns.result c.from_residual-in_err-turns.ensures.1 in
    broke_off k m e i c.args.limit o t it c.requires.ready.typed q b s d p _ c.in_err-turns.ensures.turned c.in_err-turns.ensures.traces c.from_residual-in_err-turns.result r.0 _ r.1 refl

pub returns-in_err-told-in-Some-clause-attends : goal.returns-in_err-told-in-Some-clause-attends
returns-in_err-told-in-Some-clause-attends g c =
    let e = c.args.self.now in
    let k = g.K.Keeper.contents in
    let m = g.K.Keeper.memories in
    let i = c.args.position in
    let t = c.take-begun.new.self in
    let o = c.take-begun.result in
    let q = c.in-Question.question in
    let it = taken k m e c.requires.ready.sound i c.requires.ready.within o t c.take-begun.ensures in
    let b = begun_for k m e i c.args.limit o t it c.in_ok-question.ensures.begins q c.in-Question.is in
    let s = sparing_for k m e i c.args.limit o t it c.in_ok-question.ensures.sparing q c.in-Question.is in
    let d = c.turns.new.self in
    let p = c.turns.new.question in
    let r = err_from_is_err_and c.from_residual-in_err-told-in-Some.result c.from_residual-in_err-told-in-Some.ensures.1 in
    let h = subst (λ (a : Option AnswerCode). HasTurnedOften {E = AllocError} (rules_of e) e.store (m e.demand.keeper)
    (k e.demand.keeper) (k d.keeper) e.demand.work d.work c.args.limit q p (Ok (c.in_ok-turns.turns, a))) c.in-Some.is c.in_ok-turns.ensures.turned in
    untold k m e i c.args.limit o t it c.requires.ready.typed q b s d p c.in_ok-turns.turns c.in-Some.answer h c.in_ok-turns.ensures.traces c.from_residual-in_err-told-in-Some.result r.0 r.1

pub returns-in_ok-told-in-Some-clause-attends : goal.returns-in_ok-told-in-Some-clause-attends
returns-in_ok-told-in-Some-clause-attends g c =
    let e = c.args.self.now in
    let k = g.K.Keeper.contents in
    let m = g.K.Keeper.memories in
    let i = c.args.position in
    let t = c.take-begun.new.self in
    let o = c.take-begun.result in
    let q = c.in-Question.question in
    let it = taken k m e c.requires.ready.sound i c.requires.ready.within o t c.take-begun.ensures in
    let b = begun_for k m e i c.args.limit o t it c.in_ok-question.ensures.begins q c.in-Question.is in
    let s = sparing_for k m e i c.args.limit o t it c.in_ok-question.ensures.sparing q c.in-Question.is in
    let d = c.turns.new.self in
    let p = c.turns.new.question in
    let h = subst (λ (a : Option AnswerCode). HasTurnedOften {E = AllocError} (rules_of e) e.store (m e.demand.keeper)
    (k e.demand.keeper) (k d.keeper) e.demand.work d.work c.args.limit q p (Ok (c.in_ok-turns.turns, a))) c.in-Some.is c.in_ok-turns.ensures.turned in
    told k m e i c.args.limit o t it c.requires.ready.typed q b s d p c.in_ok-turns.turns c.in-Some.answer h c.in_ok-turns.ensures.traces c.in_ok-told-in-Some.field-0
    (λ a like. c.in_ok-told-in-Some.ensures a like)

pub returns-in-None-clause-attends : goal.returns-in-None-clause-attends
returns-in-None-clause-attends g c =
    let e = c.args.self.now in
    let k = g.K.Keeper.contents in
    let m = g.K.Keeper.memories in
    let i = c.args.position in
    let t = c.take-begun.new.self in
    let o = c.take-begun.result in
    let q = c.in-Question.question in
    let it = taken k m e c.requires.ready.sound i c.requires.ready.within o t c.take-begun.ensures in
    let b = begun_for k m e i c.args.limit o t it c.in_ok-question.ensures.begins q c.in-Question.is in
    let s = sparing_for k m e i c.args.limit o t it c.in_ok-question.ensures.sparing q c.in-Question.is in
    let d = c.turns.new.self in
    let p = c.turns.new.question in
    let h = subst (λ (a : Option AnswerCode). HasTurnedOften {E = AllocError} (rules_of e) e.store (m e.demand.keeper)
    (k e.demand.keeper) (k d.keeper) e.demand.work d.work c.args.limit q p (Ok (c.in_ok-turns.turns, a))) c.in-None.is c.in_ok-turns.ensures.turned in
    not_yet k m e i c.args.limit o t it c.requires.ready.typed q b s d p c.in_ok-turns.turns h c.in_ok-turns.ensures.traces
    c.keep.new.self c.keep.ensures.there

pub returns-in_err-question-clause-went : goal.returns-in_err-question-clause-went
returns-in_err-question-clause-went g c = begun

pub returns-in-Refused-clause-went : goal.returns-in-Refused-clause-went
returns-in-Refused-clause-went g c = begun

pub returns-in_err-turns-clause-went : goal.returns-in_err-turns-clause-went
returns-in_err-turns-clause-went g c = c.turns.ensures.went

pub returns-in_err-told-in-Some-clause-went : goal.returns-in_err-told-in-Some-clause-went
returns-in_err-told-in-Some-clause-went g c = c.turns.ensures.went

pub returns-in_ok-told-in-Some-clause-went : goal.returns-in_ok-told-in-Some-clause-went
returns-in_ok-told-in-Some-clause-went g c = c.turns.ensures.went

pub returns-in-None-clause-went : goal.returns-in-None-clause-went
returns-in-None-clause-went g c = c.turns.ensures.went

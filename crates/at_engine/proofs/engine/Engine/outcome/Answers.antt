use Rattle.std.proofs.Common.{◌≡◌, List, [], None, Result, Ok, Err, ap, refl, subst, sym}
use Rattle.std.specs.Allocator.{alloc_error}
use Rattle.std.specs.declared.alloc.AllocError.{AllocError}
use Rattle.at_model.specs.Lines.{Ask, Command as CommandOf, From_root, IsCommand, Line, Spells}
use Rattle.at_model.specs.Machine.{Verdict, verdict}
use Rattle.at_protocol.specs.Again.{bare_question}
use Rattle.at_protocol.specs.Faults.{Refuses}
use Rattle.at_protocol.specs.LineView.{arguments_view, command_view, line_view, line_with, place_view, request_view}
use Rattle.at_protocol.specs.declared.line.Argument.{Argument}
use Rattle.at_protocol.specs.declared.line.Command.{Command}
use Rattle.at_protocol.specs.declared.line.Request.{Request}
use Rattle.at_protocol.specs.declared.line.Request.TheVariants as request
use Rattle.at_protocol.specs.declared.line.Line.{Line as LineValue}
use Rattle.at_protocol.specs.declared.line.LineFault.TheVariants.{Memory, Syntax}
use Rattle.at_protocol.specs.declared.reply.Form.{Form}
use Rattle.at_protocol.specs.declared.reply.Form.TheVariants as form
use Rattle.at_protocol.specs.declared.reply.Refusal.TheVariants as refusal
use Rattle.at_engine.specs.Commanding.{Fulfils}
use Rattle.at_engine.specs.Engines.{rules_of, state_of}
use Rattle.at_engine.specs.Following.{IsAtOnce}
use Rattle.at_engine.specs.Hearing.{IsStep}
use Rattle.at_engine.specs.Keeping.{SparesVerdict}
use Rattle.at_engine.proofs.Attempting.{gets_at_once, got, heard_at_once}
use Rattle.at_engine.specs.KeptOver.{obeys}
use Rattle.at_engine.proofs.of_keeping.GoneOn.{went_as, went_same}
use Rattle.at_engine.proofs.of_keeping.KeepingLemmas.{at_once_spares, form_spares, line_spares, unknown_spares, unread_spares}
use Rattle.at_engine.proofs.TellingLemmas.{step_unread, told_unread}
use Rattle.at_engine.proofs.of_turns.Awaiting.{asked_at_once}
use Rattle.at_engine.proofs.Verdicts.{bare_obeyed}
use Rattle.at_engine.proofs.engine.Engine.outcome.Goals as goal

-- the line with this command in the place of its own
abbrev line_of : LineValue → CommandOf → Line
line_of line words = record { session = line.session; expected = line.expected; command = words }

pub ask_of-form-requires : goal.ask_of-form-requires
ask_of-form-requires g c =
    let (steps, spelled, number) = c.in-Some.ensures c.requires.sound.known in
    record { asks = record { sound = c.requires.sound; named = spelled.is_line.command.1 }; place = From_root steps; number = number }

pub returns-in-Some-clause-gets : goal.returns-in-Some-clause-gets
returns-in-Some-clause-gets g c =
    let e = c.args.self.now in
    let k = g.K.Keeper.contents in
    let (steps, spelled, number) = c.in-Some.ensures c.requires.sound.known in
    let new = c.ask_of-form.new.self in
    let l = bare_question e.last.session steps c.in-Some.attribute.now in
    let Done : Verdict → Type 0 = λ v. Fulfils g.K.Keeper.contents g.K.Keeper.memories c.args.self.now v c.ask_of-form.result c.ask_of-form.new.self in
    let done = subst Done (sym (bare_obeyed (rules_of c.args.self.now) (state_of c.args.self.now) c.args.self.now.last.session steps c.in-Some.attribute.now))
    (c.ask_of-form.ensures (From_root steps) number) in
    let told = c.at_once.result in
    let soon = asked_at_once (rules_of e) (state_of e) e.last.session None (From_root steps) c.in-Some.attribute.now [] in
    let hears = heard_at_once k g.K.Keeper.memories e new l told c.ask_of-form.result
    c.at_once.ensures.session c.at_once.ensures.done c.at_once.ensures.form done.obeys done.err soon in
    got k g.K.Keeper.memories e new c.args.line.now l spelled told hears

pub returns-in-Some-clause-spares : goal.returns-in-Some-clause-spares
returns-in-Some-clause-spares g c spare =
    let e = c.args.self.now in
    let k = g.K.Keeper.contents in
    let (steps, spelled, number) = c.in-Some.ensures c.requires.sound.known in
    let new = c.ask_of-form.new.self in
    let l = bare_question e.last.session steps c.in-Some.attribute.now in
    let Done : Verdict → Type 0 = λ v. Fulfils g.K.Keeper.contents g.K.Keeper.memories c.args.self.now v c.ask_of-form.result c.ask_of-form.new.self in
    let done = subst Done (sym (bare_obeyed (rules_of c.args.self.now) (state_of c.args.self.now) c.args.self.now.last.session steps c.in-Some.attribute.now))
    (c.ask_of-form.ensures (From_root steps) number) in
    let told = c.at_once.result in
    let soon = asked_at_once (rules_of e) (state_of e) e.last.session None (From_root steps) c.in-Some.attribute.now [] in
    let hears = heard_at_once k g.K.Keeper.memories e new l told c.ask_of-form.result
    c.at_once.ensures.session c.at_once.ensures.done c.at_once.ensures.form done.obeys done.err soon in
    let v = verdict (rules_of e) (state_of e) l in
    let all = at_once_spares k e new v c.ask_of-form.result (done.spares spare) in
    line_spares k g.K.Keeper.memories e new c.args.line.now l told spelled hears (subst (λ (x : Result Form AllocError). SparesVerdict k v x e new) (sym c.at_once.ensures.form) all)

pub returns-in-Some-clause-stays : goal.returns-in-Some-clause-stays
returns-in-Some-clause-stays g c =
    let (steps, spelled, number) = c.in-Some.ensures c.requires.sound.known in
    let done = c.ask_of-form.ensures (From_root steps) number in
    done.stays

-- the line that was read is that of this command
is_told : (l : LineValue) (c : Command) → l.request ≡ request.Command c → line_view l ≡ line_with l.session l.expected (command_view c)
is_told l c is = ap (λ r. line_with l.session l.expected (request_view r)) is

pub obey-requires-clause-is_command : goal.obey-requires-clause-is_command
obey-requires-clause-is_command g c =
    let q = c.in-Ok-Command in
    let is : q.field-0.request ≡ request.Command q.command = cc in
    subst (λ (l : Line). IsCommand l.command) (is_told q.field-0 q.command is) q.ensures.found.is_line.command

pub returns-in-Ok-Command-clause-gets : goal.returns-in-Ok-Command-clause-gets
returns-in-Ok-Command-clause-gets g c =
    let e = c.args.self.now in
    let q = c.in-Ok-Command in
    let is : q.field-0.request ≡ request.Command q.command = cc in
    let spelled = subst (Spells c.args.line.now) (is_told q.field-0 q.command is) q.ensures.found in
    got g.K.Keeper.contents g.K.Keeper.memories e c.obey.new.self c.args.line.now _ spelled c.obey.result c.obey.ensures.hears

pub returns-in-Ok-Command-clause-spares : goal.returns-in-Ok-Command-clause-spares
returns-in-Ok-Command-clause-spares g c spare =
    let q = c.in-Ok-Command in
    let is : q.field-0.request ≡ request.Command q.command = cc in
    let spelled = subst (Spells c.args.line.now) (is_told q.field-0 q.command is) q.ensures.found in
    line_spares g.K.Keeper.contents g.K.Keeper.memories c.args.self.now c.obey.new.self c.args.line.now _ c.obey.result spelled c.obey.ensures.hears (c.obey.ensures.spares spare)

pub returns-in-Ok-Ask-clause-gets : goal.returns-in-Ok-Ask-clause-gets
returns-in-Ok-Ask-clause-gets g c =
    let e = c.args.self.now in
    let k = g.K.Keeper.contents in
    let q = c.in-Ok-Ask in
    let new = c.question.new.self in
    let is : q.field-0.request ≡ request.Ask q.place q.attribute q.arguments = cc in
    let Listed : List Argument → Type 0 = λ arguments. Fulfils k g.K.Keeper.memories e (verdict (rules_of e) (state_of e) (line_of q.field-0 (Ask (place_view q.place) q.attribute.now (arguments_view arguments)))) c.question.result new in
    let Done : Request → Type 0 = λ words. Fulfils k g.K.Keeper.memories e (verdict (rules_of e) (state_of e) (line_of q.field-0 (request_view words))) c.question.result new in
    let done = subst Done (sym is) (subst Listed c.deref.ensures.value c.question.ensures) in
    let told = c.at_once-in-Ok-Ask.result in
    let soon = subst (λ (words : Request). IsAtOnce (verdict (rules_of e) (state_of e) (line_of q.field-0 (request_view words)))) (sym is)
    (asked_at_once (rules_of e) (state_of e) q.field-0.session q.field-0.expected (place_view q.place) q.attribute.now (arguments_view q.arguments.items)) in
    let hears = heard_at_once k g.K.Keeper.memories e new (line_view q.field-0) told c.question.result
    c.at_once-in-Ok-Ask.ensures.session c.at_once-in-Ok-Ask.ensures.done c.at_once-in-Ok-Ask.ensures.form done.obeys done.err soon in
    got k g.K.Keeper.memories e new c.args.line.now (line_view q.field-0) q.ensures.found told hears

pub returns-in-Ok-Ask-clause-spares : goal.returns-in-Ok-Ask-clause-spares
returns-in-Ok-Ask-clause-spares g c spare =
    let e = c.args.self.now in
    let k = g.K.Keeper.contents in
    let q = c.in-Ok-Ask in
    let new = c.question.new.self in
    let is : q.field-0.request ≡ request.Ask q.place q.attribute q.arguments = cc in
    let Listed : List Argument → Type 0 = λ arguments. Fulfils k g.K.Keeper.memories e (verdict (rules_of e) (state_of e) (line_of q.field-0 (Ask (place_view q.place) q.attribute.now (arguments_view arguments)))) c.question.result new in
    let Done : Request → Type 0 = λ words. Fulfils k g.K.Keeper.memories e (verdict (rules_of e) (state_of e) (line_of q.field-0 (request_view words))) c.question.result new in
    let done = subst Done (sym is) (subst Listed c.deref.ensures.value c.question.ensures) in
    let told = c.at_once-in-Ok-Ask.result in
    let soon = subst (λ (words : Request). IsAtOnce (verdict (rules_of e) (state_of e) (line_of q.field-0 (request_view words)))) (sym is)
    (asked_at_once (rules_of e) (state_of e) q.field-0.session q.field-0.expected (place_view q.place) q.attribute.now (arguments_view q.arguments.items)) in
    let hears = heard_at_once k g.K.Keeper.memories e new (line_view q.field-0) told c.question.result
    c.at_once-in-Ok-Ask.ensures.session c.at_once-in-Ok-Ask.ensures.done c.at_once-in-Ok-Ask.ensures.form done.obeys done.err soon in
    let v = verdict (rules_of e) (state_of e) (line_view q.field-0) in
    let all = at_once_spares k e new v c.question.result (done.spares spare) in
    line_spares k g.K.Keeper.memories e new c.args.line.now (line_view q.field-0) told q.ensures.found hears (subst (λ (x : Result Form AllocError). SparesVerdict k v x e new) (sym c.at_once-in-Ok-Ask.ensures.form) all)

pub returns-in-Err-Syntax-clause-gets : goal.returns-in-Err-Syntax-clause-gets
returns-in-Err-Syntax-clause-gets g c =
    let e = c.args.self.now in
    let is : c.in-Err-Syntax.field-0 ≡ Syntax c.in-Err-Syntax.session = cc in
    let refused = subst (Refuses c.args.line.now) is c.in-Err-Syntax.ensures.refused in
    gets_at_once (IsStep g.K.Keeper.contents g.K.Keeper.memories c.args.line.now e e) c.at_once-in-Err-Syntax.result c.in-Err-Syntax.session (Ok (form.Refused refusal.Syntax)) c.at_once-in-Err-Syntax.ensures.session c.at_once-in-Err-Syntax.ensures.done c.at_once-in-Err-Syntax.ensures.form
    (told_unread g.K.Keeper.contents g.K.Keeper.memories e c.args.line.now c.in-Err-Syntax.session refused.1 refused.0)

pub returns-in-Err-Syntax-clause-spares : goal.returns-in-Err-Syntax-clause-spares
returns-in-Err-Syntax-clause-spares g c spare =
    let e = c.args.self.now in
    let is : c.in-Err-Syntax.field-0 ≡ Syntax c.in-Err-Syntax.session = cc in
    form_spares g.K.Keeper.contents e e c.args.line.now (Ok (form.Refused refusal.Syntax)) c.at_once-in-Err-Syntax.result.form c.at_once-in-Err-Syntax.ensures.form
    (unread_spares g.K.Keeper.contents e c.args.line.now (subst (Refuses c.args.line.now) is c.in-Err-Syntax.ensures.refused).0 spare)

pub returns-in-Err-Memory-clause-gets : goal.returns-in-Err-Memory-clause-gets
returns-in-Err-Memory-clause-gets g c =
    let e = c.args.self.now in
    let is : c.in-Err-Memory.field-0 ≡ Memory c.in-Err-Memory.session = cc in
    let session = subst (Refuses c.args.line.now) is c.in-Err-Memory.ensures.refused in
    gets_at_once (IsStep g.K.Keeper.contents g.K.Keeper.memories c.args.line.now e e) c.at_once-in-Err-Memory.result c.in-Err-Memory.session (Err alloc_error) c.at_once-in-Err-Memory.ensures.session c.at_once-in-Err-Memory.ensures.done c.at_once-in-Err-Memory.ensures.form
    (step_unread g.K.Keeper.contents g.K.Keeper.memories e c.args.line.now c.in-Err-Memory.session session)

pub returns-in-Err-Memory-clause-spares : goal.returns-in-Err-Memory-clause-spares
returns-in-Err-Memory-clause-spares g c spare =
    let e = c.args.self.now in
    form_spares g.K.Keeper.contents e e c.args.line.now (Err alloc_error) c.at_once-in-Err-Memory.result.form c.at_once-in-Err-Memory.ensures.form (unknown_spares g.K.Keeper.contents e c.args.line.now spare)

pub returns-in-Some-clause-went : goal.returns-in-Some-clause-went
returns-in-Some-clause-went g c =
    let (steps, spelled, number) = c.in-Some.ensures c.requires.sound.known in
    let Done : Verdict → Type 0 = λ v. Fulfils g.K.Keeper.contents g.K.Keeper.memories c.args.self.now v c.ask_of-form.result c.ask_of-form.new.self in
    let done = subst Done (sym (bare_obeyed (rules_of c.args.self.now) (state_of c.args.self.now) c.args.self.now.last.session steps c.in-Some.attribute.now))
    (c.ask_of-form.ensures (From_root steps) number) in
    let l = bare_question c.args.self.now.last.session steps c.in-Some.attribute.now in
    went_as g.K.Keeper.contents g.K.Keeper.memories _ _ c.args.self.now c.ask_of-form.new.self (λ w is. obeys l spelled (sym is)) done.went

pub returns-in-Ok-Command-clause-went : goal.returns-in-Ok-Command-clause-went
returns-in-Ok-Command-clause-went g c =
    let q = c.in-Ok-Command in
    let is : q.field-0.request ≡ request.Command q.command = cc in
    let spelled = subst (Spells c.args.line.now) (is_told q.field-0 q.command is) q.ensures.found in
    went_as g.K.Keeper.contents g.K.Keeper.memories _ _ c.args.self.now c.obey.new.self (λ w same. obeys _ spelled (sym same)) c.obey.ensures.went

pub returns-in-Ok-Ask-clause-went : goal.returns-in-Ok-Ask-clause-went
returns-in-Ok-Ask-clause-went g c =
    let e = c.args.self.now in
    let k = g.K.Keeper.contents in
    let q = c.in-Ok-Ask in
    let new = c.question.new.self in
    let is : q.field-0.request ≡ request.Ask q.place q.attribute q.arguments = cc in
    let Listed : List Argument → Type 0 = λ arguments. Fulfils k g.K.Keeper.memories e (verdict (rules_of e) (state_of e) (line_of q.field-0 (Ask (place_view q.place) q.attribute.now (arguments_view arguments)))) c.question.result new in
    let Done : Request → Type 0 = λ words. Fulfils k g.K.Keeper.memories e (verdict (rules_of e) (state_of e) (line_of q.field-0 (request_view words))) c.question.result new in
    let done = subst Done (sym is) (subst Listed c.deref.ensures.value c.question.ensures) in
    went_as k g.K.Keeper.memories _ _ e new (λ w same. obeys (line_view q.field-0) q.ensures.found (sym same)) done.went

pub returns-in-Err-Syntax-clause-went : goal.returns-in-Err-Syntax-clause-went
returns-in-Err-Syntax-clause-went g c = went_same g.K.Keeper.contents g.K.Keeper.memories _ c.args.self.now c.args.self.now refl

pub returns-in-Err-Memory-clause-went : goal.returns-in-Err-Memory-clause-went
returns-in-Err-Memory-clause-went g c = went_same g.K.Keeper.contents g.K.Keeper.memories _ c.args.self.now c.args.self.now refl

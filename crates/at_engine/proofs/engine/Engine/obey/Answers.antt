use Rattle.std.proofs.Common.{◌∙◌, Result, Ok, ap, refl, sym, subst}
use Rattle.std.specs.declared.alloc.AllocError.{AllocError}
use Rattle.std.proofs.lemmas.Option.{slice_get_within}
use Rattle.std.proofs.lemmas.Result.{IfOk-weaker}
use Rattle.at_model.specs.Machine.{obeyed, verdict}
use Rattle.at_protocol.specs.LineView.{command_view, line_with}
use Rattle.at_protocol.specs.declared.reply.Form.{Form}
use Rattle.at_protocol.specs.declared.reply.Form.TheVariants as form
use Rattle.at_engine.specs.Engines.{rules_of, state_of, Knows}
use Rattle.at_engine.specs.Keeping.{SparesVerdict}
use Rattle.at_engine.specs.Following.{IsAtOnce}
use Rattle.at_engine.specs.Hearing.{by_turns}
use Rattle.at_engine.specs.declared.engine.Engine.{Engine}
use Rattle.at_engine.proofs.Attempting.{heard_at_once}
use Rattle.at_engine.proofs.FollowingLemmas.{as_verdict, told_at_once}
use Rattle.at_engine.proofs.of_keeping.GoneOn.{went_as, went_quiet, went_same}
use Rattle.at_engine.proofs.of_keeping.KeepingLemmas.{at_once_spares, refused_spares, turned_spares, waited_spares}
use Rattle.at_engine.proofs.engine.Engine.obey.Goals as goal

pub returns-in-Some-clause-hears : goal.returns-in-Some-clause-hears
returns-in-Some-clause-hears g c =
    let e = c.args.self.now in
    let is = c.at_once.ensures.form in
    let l = line_with c.args.session c.args.expected (command_view c.args.command.now) in
    let meets = c.in-Some.ensures l (sym c.reads_command-is_readable.ensures) refl (sym c.has_used-is_marked.ensures) in
    heard_at_once g.K.Keeper.contents g.K.Keeper.memories e e l c.at_once.result (Ok (form.Refused c.in-Some.refusal))
    c.at_once.ensures.session c.at_once.ensures.done is meets tt
    (told_at_once (rules_of e) (state_of e) (verdict (rules_of e) (state_of e) l) (form.Refused c.in-Some.refusal) (state_of e) meets)

pub returns-in-Some-clause-spares : goal.returns-in-Some-clause-spares
returns-in-Some-clause-spares g c spare =
    let e = c.args.self.now in
    let k = g.K.Keeper.contents in
    let v = verdict (rules_of e) (state_of e) (line_with c.args.session c.args.expected (command_view c.args.command.now)) in
    let is = c.at_once.ensures.form in
    let all : SparesVerdict {T = Form} {E = AllocError} k v (Ok (form.Refused c.in-Some.refusal)) e e = at_once_spares {E = AllocError} k e e v (Ok (form.Refused c.in-Some.refusal)) (refused_spares k e v spare c.in-Some.refusal (c.in-Some.ensures (line_with c.args.session c.args.expected (command_view c.args.command.now)) (sym c.reads_command-is_readable.ensures) refl (sym c.has_used-is_marked.ensures))) in
    subst (λ (x : Result Form AllocError). SparesVerdict k v x e e) (sym is) all

pub wait-requires : goal.wait-requires
wait-requires g c = record {
  sound = c.requires.sound.held;
  typed = c.requires.sound.typed;
  within = slice_get_within c.args.self.now.posts.items.items c.in-Some-awaited.position c.in-Some-awaited.ensures.question c.in-Some-awaited.ensures.there;
}

pub returns-in-Some-awaited-clause-hears : goal.returns-in-Some-awaited-clause-hears
returns-in-Some-awaited-clause-hears g c =
    let e = c.args.self.now in
    let q = c.in-Some-awaited.ensures.question in
    by_turns c.in-Some-awaited.position q c.in-Some-awaited.ensures.there ((c.in_default.ensures (line_with c.args.session c.args.expected (command_view c.args.command.now)) (sym c.reads_command-is_readable.ensures) refl
    (sym c.has_used-is_marked.ensures)) ∙ c.in-Some-awaited.ensures.waits)
    (c.wait.ensures.attends.done q c.in-Some-awaited.ensures.there)

pub returns-in-Some-awaited-clause-spares : goal.returns-in-Some-awaited-clause-spares
returns-in-Some-awaited-clause-spares g c spare =
    let e = c.args.self.now in
    let v = verdict (rules_of e) (state_of e) (line_with c.args.session c.args.expected (command_view c.args.command.now)) in
    waited_spares g.K.Keeper.contents e c.wait.new.self v c.wait.result.form c.in-Some-awaited.ensures.question.number ((c.in_default.ensures (line_with c.args.session c.args.expected (command_view c.args.command.now)) (sym c.reads_command-is_readable.ensures) refl (sym c.has_used-is_marked.ensures)) ∙ c.in-Some-awaited.ensures.waits)
    (λ whole. c.wait.ensures.attends.spare whole spare)

pub returns-in-None-clause-hears : goal.returns-in-None-clause-hears
returns-in-None-clause-hears g c =
    let e = c.args.self.now in
    let l = line_with c.args.session c.args.expected (command_view c.args.command.now) in
    let v = verdict (rules_of e) (state_of e) l in
    let o = obeyed (rules_of e) (state_of e) l.session l.command in
    let same = c.in_default.ensures l (sym c.reads_command-is_readable.ensures) refl (sym c.has_used-is_marked.ensures) in
    heard_at_once g.K.Keeper.contents g.K.Keeper.memories e c.command.new.self l c.at_once-in-None.result c.command.result c.at_once-in-None.ensures.session c.at_once-in-None.ensures.done c.at_once-in-None.ensures.form
    (IfOk-weaker c.command.result _ _ (λ f told. as_verdict (rules_of e) (state_of e) v o f (state_of c.command.new.self) same told) c.command.ensures.obeys) c.command.ensures.err
    (subst IsAtOnce (sym same) c.in-None.ensures)

pub returns-in-None-clause-spares : goal.returns-in-None-clause-spares
returns-in-None-clause-spares g c spare =
    let e = c.args.self.now in
    let k = g.K.Keeper.contents in
    let l = line_with c.args.session c.args.expected (command_view c.args.command.now) in
    let v = verdict (rules_of e) (state_of e) l in
    let all = at_once_spares k e c.command.new.self v c.command.result (turned_spares k e c.command.new.self v (obeyed (rules_of e) (state_of e) l.session l.command) c.command.result (c.in_default.ensures (line_with c.args.session c.args.expected (command_view c.args.command.now)) (sym c.reads_command-is_readable.ensures) refl (sym c.has_used-is_marked.ensures)) (c.command.ensures.spares spare)) in
    subst (λ (x : Result Form AllocError). SparesVerdict k v x e c.command.new.self) (sym c.at_once-in-None.ensures.form) all

pub returns-in-Some-clause-went : goal.returns-in-Some-clause-went
returns-in-Some-clause-went g c = went_same g.K.Keeper.contents g.K.Keeper.memories _ c.args.self.now c.args.self.now refl

pub returns-in-Some-awaited-clause-went : goal.returns-in-Some-awaited-clause-went
returns-in-Some-awaited-clause-went g c = went_quiet g.K.Keeper.contents g.K.Keeper.memories _ c.args.self.now c.wait.new.self c.wait.ensures.went

pub returns-in-None-clause-went : goal.returns-in-None-clause-went
returns-in-None-clause-went g c =
    let same = c.in_default.ensures (line_with c.args.session c.args.expected (command_view c.args.command.now)) (sym c.reads_command-is_readable.ensures) refl
    (sym c.has_used-is_marked.ensures) in
    went_as g.K.Keeper.contents g.K.Keeper.memories _ _ c.args.self.now c.command.new.self (λ w is. same ∙ is) c.command.ensures.went

pub returns-in-Some-awaited-clause-stays : goal.returns-in-Some-awaited-clause-stays
returns-in-Some-awaited-clause-stays g c =
    let rest = c.wait.ensures.attends.rest in
    record {
      rules = ap (λ (x : Engine g.row.K.Denot). x.rules) rest;
      settings = ap (λ (x : Engine g.row.K.Denot). x.settings) rest;
      sound = c.wait.ensures.attends.sound;
      known = λ k. subst (Knows {K = g.row.K.Denot}) (sym rest) k;
    }

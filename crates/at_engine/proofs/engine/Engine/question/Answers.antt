use Rattle.std.proofs.Common.{◌∙◌, List, None, Some, ap, refl, subst, sym}
use Rattle.at_model.specs.Lines.{Ask, Line}
use Rattle.at_model.specs.Machine.{node_named, obeyed, verdict}
use Rattle.at_model.specs.Rules.{Rules}
use Rattle.at_protocol.specs.LineView.{arguments_view, place_view}
use Rattle.at_protocol.specs.declared.reply.Refusal.TheVariants as refusal
use Rattle.at_store.specs.Shown.{Shown}
use Rattle.at_engine.specs.Engines.{marks_of, rules_of, state_of}
use Rattle.at_engine.specs.Marks.{Mark, listed}
use Rattle.at_engine.specs.Naming.{IsNumberOf}
use Rattle.at_engine.specs.Seen.{state_seen}
use Rattle.at_engine.specs.declared.engine.Engine.{Engine}
use Rattle.at_engine.specs.declared.marks.Marks.{Marks}
use Rattle.at_engine.proofs.FollowingLemmas.{refuses}
use Rattle.at_engine.proofs.of_marks.LastPlace.{leads, noted_so, noted_sound}
use Rattle.at_engine.proofs.MeantLemmas.{along}
use Rattle.at_engine.proofs.Questions.{asked_nowhere}
use Rattle.at_engine.proofs.of_keeping.Fulfilling.{refused_so, turned_so}
use Rattle.at_engine.proofs.engine.Engine.question.Goals as goal

pub returns-in-Some : goal.returns-in-Some
returns-in-Some g c =
    let e = c.args.self.now in
    let l : Line = record { session = c.args.session; expected = c.args.expected; command = Ask (place_view c.args.place.now) c.args.attribute.now (arguments_view c.args.arguments.now) } in
    refused_so g.K.Keeper.contents g.K.Keeper.memories e c.requires.can_ask.sound.held (verdict (rules_of e) (state_of e) l) c.in-Some.refusal (c.in-Some.ensures l (sym c.reads-is_readable.ensures) refl (sym c.has_asked-is_marked.ensures))

pub returns-in_default-node_named : goal.returns-in_default-node_named
returns-in_default-node_named g c =
    let e = c.args.self.now in
    let l : Line = record { session = c.args.session; expected = c.args.expected; command = Ask (place_view c.args.place.now) c.args.attribute.now (arguments_view c.args.arguments.now) } in
    let place = place_view c.args.place.now in
    let Numbered : Rules → Shown → List Mark → Type 0 = λ r s ms. IsNumberOf s (node_named r.classes (state_seen s ms) c.args.session place) None in
    let view = c.view.ensures in
    let nowhere = along Numbered view.rules view.store (ap (λ (m : Marks). listed m.items.entries) view.marks) c.in_default-node_named.ensures in
    let v = verdict (rules_of e) (state_of e) l in
    let is = c.in_default.ensures l (sym c.reads-is_readable.ensures) refl (sym c.has_asked-is_marked.ensures) ∙ asked_nowhere (rules_of e) (state_of e) c.args.session place c.args.attribute.now (arguments_view c.args.arguments.now) nowhere in
    refused_so g.K.Keeper.contents g.K.Keeper.memories e c.requires.can_ask.sound.held v refusal.Path (refuses (rules_of e) (state_of e) v refusal.Path is)

pub ask_of-requires : goal.ask_of-requires
ask_of-requires g c =
    let e = c.args.self.now in
    let k = g.K.Keeper.contents in
    let place = place_view c.args.place.now in
    let node = c.in-Some-node_named.node in
    let view = c.view.ensures in
    let Numbered : Rules → Shown → List Mark → Type 0 = λ r s ms. IsNumberOf s (node_named r.classes (state_seen s ms) c.args.session place) (Some node) in
    let number = along Numbered view.rules view.store (ap (λ (m : Marks). listed m.items.entries) view.marks) c.in-Some-node_named.ensures in
    let line = c.requires.spelled.is_line in
    let found = leads (rules_of e).classes e.store (marks_of e) c.args.session node place c.front_of-front.result line.session line.command.0 number (c.front_of-front.ensures.found c.args.session c.requires.spelled) in
    let m = c.note.new.self in
    let rest = c.note.ensures.rest in
    let known = c.note.ensures.known c.requires.can_ask.sound.known found in
    let Named : Engine g.row.K.Denot → Type 0 = λ x. IsNumberOf x.store (node_named (rules_of x).classes (state_of x) c.args.session place) (Some node) in
    let still = subst Named (sym rest) number in
    record { asks = record { sound = noted_sound k g.K.Keeper.memories e m rest known c.requires.can_ask.sound; named = c.requires.can_ask.named }; place = place; number = still }

pub returns : goal.returns
returns g c =
    let e = c.args.self.now in
    let k = g.K.Keeper.contents in
    let place = place_view c.args.place.now in
    let node = c.in-Some-node_named.node in
    let view = c.view.ensures in
    let Numbered : Rules → Shown → List Mark → Type 0 = λ r s ms. IsNumberOf s (node_named r.classes (state_seen s ms) c.args.session place) (Some node) in
    let number = along Numbered view.rules view.store (ap (λ (m : Marks). listed m.items.entries) view.marks) c.in-Some-node_named.ensures in
    let line = c.requires.spelled.is_line in
    let found = leads (rules_of e).classes e.store (marks_of e) c.args.session node place c.front_of-front.result line.session line.command.0 number (c.front_of-front.ensures.found c.args.session c.requires.spelled) in
    let m = c.note.new.self in
    let rest = c.note.ensures.rest in
    let known = c.note.ensures.known c.requires.can_ask.sound.known found in
    let Named : Engine g.row.K.Denot → Type 0 = λ x. IsNumberOf x.store (node_named (rules_of x).classes (state_of x) c.args.session place) (Some node) in
    let still = subst Named (sym rest) number in
    let l : Line = record { session = c.args.session; expected = c.args.expected; command = Ask (place_view c.args.place.now) c.args.attribute.now (arguments_view c.args.arguments.now) } in
    let v = verdict (rules_of e) (state_of e) l in
    let is = c.in_default.ensures l (sym c.reads-is_readable.ensures) refl (sym c.has_asked-is_marked.ensures) ∙ ap (λ (x : Engine g.row.K.Denot). obeyed (rules_of x) (state_of x) l.session l.command) (sym rest) in
    noted_so k g.K.Keeper.memories e m rest known v c.ask_of.result c.ask_of.new.self (turned_so k g.K.Keeper.memories m c.ask_of.new.self v (obeyed (rules_of m) (state_of m) l.session l.command) c.ask_of.result is (c.ask_of.ensures place still))

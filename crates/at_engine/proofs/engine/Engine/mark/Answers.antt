use Rattle.std.proofs.Common.{◌∙◌, ◌++◌, ◌∷◌, [], nat_le, List, None, Some, Ok, refl, sym, ap, subst, string_bytes, is_some}
use Rattle.std.proofs.lemmas.Result.{err_from_is_err_and}
use Rattle.at_model.specs.Machine.{node_named}
use Rattle.at_model.specs.Rules.{Rules}
use Rattle.at_protocol.specs.LineView.{place_view}
use Rattle.at_protocol.specs.declared.reply.Form.TheVariants as form
use Rattle.at_protocol.specs.declared.reply.Refusal.TheVariants as refusal
use Rattle.at_store.specs.Shown.{Shown, path}
use Rattle.at_engine.specs.Commanding.{Continues}
use Rattle.at_engine.specs.Engines.{marks_of, rules_of, state_of}
use Rattle.at_engine.specs.Marks.{Mark, AreThere, has_mark, listed, marks_view}
use Rattle.at_engine.specs.Naming.{IsNumberOf}
use Rattle.at_engine.specs.Seen.{state_seen}
use Rattle.at_engine.specs.declared.marks.Marks.{Marks}
use Rattle.at_engine.proofs.Commands.{mark_nowhere, mark_taken, mark_full, mark_made}
use Rattle.at_engine.proofs.of_marks.Marked.{counted, pushed, there_pushed}
use Rattle.at_engine.proofs.MeantLemmas.{along}
use Rattle.at_engine.proofs.NamingLemmas.{marked_as}
use Rattle.at_engine.proofs.Storing.{on_err, sound_marks}
use Rattle.at_engine.proofs.of_keeping.Fulfilling.{failed_so, quiet_so, refused_so}
use Rattle.at_engine.proofs.of_keeping.KeepingLemmas.{if_any, mark_quiet, spare_stays}
use Rattle.at_engine.proofs.engine.Engine.mark.Goals as goal

pub returns-in_default : goal.returns-in_default
returns-in_default g c =
    let e = c.args.self.now in
    let Nowhere : Rules → Shown → List Mark → Type 0 = λ r s ms. IsNumberOf s (node_named r.classes (state_seen s ms) c.args.session (place_view c.args.place.now)) None in
    let none = along Nowhere c.view.ensures.rules c.view.ensures.store (ap (λ (m : Marks). listed m.items.entries) c.view.ensures.marks) c.in_default.ensures in
    refused_so g.K.Keeper.contents g.K.Keeper.memories e c.requires.sound _ refusal.Path (mark_nowhere (rules_of e) (state_of e) c.args.session (place_view c.args.place.now) c.args.name.now none)

pub returns-then-has_mark : goal.returns-then-has_mark
returns-then-has_mark g c =
    let e = c.args.self.now in
    let Here : Rules → Shown → List Mark → Type 0 = λ r s ms. IsNumberOf s (node_named r.classes (state_seen s ms) c.args.session (place_view c.args.place.now)) (Some c.in-Some.node) in
    let (n, named, p) = along Here c.view.ensures.rules c.view.ensures.store (ap (λ (m : Marks). listed m.items.entries) c.view.ensures.marks) c.in-Some.ensures in
    let taken = sym (marked_as e.store c.args.session c.args.name.now (marks_of e) c.requires.sound.marked) ∙ sym c.has_mark.ensures ∙ c.if-has_mark.true in
    refused_so g.K.Keeper.contents g.K.Keeper.memories e c.requires.sound _ refusal.Taken (mark_taken (rules_of e) (state_of e) c.args.session (place_view c.args.place.now) c.args.name.now n named taken)

pub returns-then-is_full : goal.returns-then-is_full
returns-then-is_full g c =
    let e = c.args.self.now in
    let Here : Rules → Shown → List Mark → Type 0 = λ r s ms. IsNumberOf s (node_named r.classes (state_seen s ms) c.args.session (place_view c.args.place.now)) (Some c.in-Some.node) in
    let (n, named, p) = along Here c.view.ensures.rules c.view.ensures.store (ap (λ (m : Marks). listed m.items.entries) c.view.ensures.marks) c.in-Some.ensures in
    let free = sym (marked_as e.store c.args.session c.args.name.now (marks_of e) c.requires.sound.marked) ∙ sym c.has_mark.ensures ∙ c.if-has_mark.false in
    let full = ap (nat_le 100) (counted (path e.store) c.args.session (marks_of e) c.requires.sound.marked) ∙ sym c.is_full.ensures ∙ c.if-is_full.true in
    refused_so g.K.Keeper.contents g.K.Keeper.memories e c.requires.sound _ refusal.Limit (mark_full (rules_of e) (state_of e) c.args.session (place_view c.args.place.now) c.args.name.now n named free full)

pub returns-in_err-name : goal.returns-in_err-name
returns-in_err-name g c =
    let p = err_from_is_err_and c.from_residual.result c.from_residual.ensures.1 in
    failed_so g.K.Keeper.contents g.K.Keeper.memories c.args.self.now c.requires.sound _ c.from_residual.result p.0 p.1

-- the session has no mark of that name yet
pub push-requires : goal.push-requires
push-requires g c = ap (has_mark (marks_of c.args.self.now) c.args.session) c.in_ok-name.ensures.ok ∙ sym c.has_mark.ensures ∙ c.if-has_mark.false

pub returns-in_err-push : goal.returns-in_err-push
returns-in_err-push g c =
    let e = c.args.self.now in
    let new = record e { marks = c.push.new.self } in
    let result = c.from_residual-in_err-push.result in
    let p = err_from_is_err_and result c.from_residual-in_err-push.ensures.1 in
    let stays : Continues g.K.Keeper.contents g.K.Keeper.memories e new = record {
      rules = refl;
      settings = refl;
      known = λ k. k;
      sound = sound_marks (rules_of e) e.store (marks_of e) _ e.posts _ (subst (AreThere (path e.store)) (sym c.in_err-push.ensures.err) c.requires.sound.marked) c.requires.sound;
    } in
    let err = on_err result _ (ap (λ (l : List Mark). record (state_of e) { marks = marks_view (path e.store) l }) c.in_err-push.ensures.err) in
    quiet_so g.K.Keeper.contents g.K.Keeper.memories e new _ result refl refl refl stays (if_any result _ (mark_quiet (rules_of e) (state_of e) c.args.session c.args.name.now (place_view c.args.place.now))) (rw p.1 tt) err
    (spare_stays g.K.Keeper.contents e new refl refl refl refl refl refl)

pub returns : goal.returns
returns g c =
    let e = c.args.self.now in
    let name = c.args.name.now in
    let place = place_view c.args.place.now in
    let new = record e { marks = c.push.new.self } in
    let Here : Rules → Shown → List Mark → Type 0 = λ r s ms. IsNumberOf s (node_named r.classes (state_seen s ms) c.args.session (place_view c.args.place.now)) (Some c.in-Some.node) in
    let (n, named, p) = along Here c.view.ensures.rules c.view.ensures.store (ap (λ (m : Marks). listed m.items.entries) c.view.ensures.marks) c.in-Some.ensures in
    let free = sym (marked_as e.store c.args.session name (marks_of e) c.requires.sound.marked) ∙ sym c.has_mark.ensures ∙ c.if-has_mark.false in
    let few = ap (nat_le 100) (counted (path e.store) c.args.session (marks_of e) c.requires.sound.marked) ∙ sym c.is_full.ensures ∙ c.if-is_full.false in
    let m : Mark = record { session = c.args.session; name = name; node = c.in-Some.node } in
    let more = ap (marks_view (path e.store)) (c.in_ok-push.ensures.more ∙ ap (λ x. marks_of e ++ (record { session = c.args.session; name = x; node = c.in-Some.node }) ∷ []) c.in_ok-name.ensures.ok) ∙ pushed (path e.store) (marks_of e) m n p in
    let made : Mark = record { session = c.args.session; name = string_bytes c.in_ok-name.name; node = c.in-Some.node } in
    let stays : Continues g.K.Keeper.contents g.K.Keeper.memories e new = record {
      rules = refl;
      settings = refl;
      known = λ k. k;
      sound = sound_marks (rules_of e) e.store (marks_of e) _ e.posts _ (subst (AreThere (path e.store)) (sym c.in_ok-push.ensures.more) (there_pushed (path e.store) (marks_of e) made (ap is_some p) c.requires.sound.marked)) c.requires.sound;
    } in
    rw c.done.ensures (quiet_so g.K.Keeper.contents g.K.Keeper.memories e new _ (Ok (form.Ok e.version)) refl refl refl stays (mark_quiet (rules_of e) (state_of e) c.args.session name place) (mark_made (rules_of e) (state_of e) c.args.session place name n named free few _ more) tt
    (spare_stays g.K.Keeper.contents e new refl refl refl refl refl refl))

use Rattle.std.proofs.Common.{◌∙◌, not, sym, ap, refl, subst, Ok}
use Rattle.at_model.specs.Machine.{Marked, is_mark}
use Rattle.at_protocol.specs.declared.reply.Form.TheVariants as form
use Rattle.at_store.specs.Shown.{path}
use Rattle.at_engine.specs.Commanding.{Continues}
use Rattle.at_engine.specs.Engines.{marks_of, rules_of, state_of}
use Rattle.at_engine.specs.Marks.{Mark, AreThere, is_named, marks_view}
use Rattle.at_engine.proofs.Commands.{unmarked}
use Rattle.at_engine.proofs.of_marks.Marked.{filtered, there_filtered}
use Rattle.at_engine.proofs.Storing.{sound_marks}
use Rattle.at_engine.proofs.of_keeping.Fulfilling.{quiet_so}
use Rattle.at_engine.proofs.of_keeping.KeepingLemmas.{spare_stays}
use Rattle.at_engine.proofs.engine.Engine.unmark.Goals as goal

pub returns : goal.returns
returns g c =
    let e = c.args.self.now in
    let new = record e { marks = c.forget.new.self } in
    let left = ap (marks_view (path e.store)) c.forget.ensures
    ∙ sym (filtered (path e.store) (λ (m : Marked). not (is_mark c.args.session c.args.name.now m)) (λ (m : Mark). not (is_named c.args.session c.args.name.now m)) (λ m n. refl) (marks_of e)) in
    let stays : Continues g.K.Keeper.contents g.K.Keeper.memories e new = record {
      rules = refl;
      settings = refl;
      known = λ k. k;
      sound = sound_marks (rules_of e) e.store (marks_of e) _ e.posts _ (subst (AreThere (path e.store)) (sym c.forget.ensures) (there_filtered (path e.store) (λ (m : Mark). not (is_named c.args.session c.args.name.now m)) (marks_of e) c.requires.sound.marked)) c.requires.sound;
    } in
    rw c.done.ensures (quiet_so g.K.Keeper.contents g.K.Keeper.memories e new _ (Ok (form.Ok e.version)) refl refl refl stays tt (unmarked (rules_of e) (state_of e) c.args.session c.args.name.now _ left) tt
    (spare_stays g.K.Keeper.contents e new refl refl refl refl refl refl))

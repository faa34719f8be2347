use Rattle.std.proofs.Common.{◌≡◌, ◌∙◌, ℕ, List, Ok, map, nat_le, ap, ap₂, arith, refl, sym, subst}
use Rattle.std.specs.List.{AllByRecursion}
use Rattle.std.proofs.lemmas.Bool.{eq-eqb, ne_eqb}
use Rattle.std.proofs.lemmas.Result.{err_from_is_err_and}
use Rattle.at_model.specs.Enduring.{AreNumbered}
use Rattle.at_model.specs.Lines.{last_post, Post}
use Rattle.at_protocol.specs.LineView.{arguments_view, place_view}
use Rattle.at_protocol.specs.declared.reply.Form.TheVariants as form
use Rattle.at_protocol.specs.declared.reply.Refusal.TheVariants as refusal
use Rattle.at_store.specs.Shown.{contents, path}
use Rattle.at_engine.specs.Commanding.{Continues}
use Rattle.at_engine.specs.Engines.{marks_of, rules_of, state_of}
use Rattle.at_engine.specs.Holding.{IsPostedOn}
use Rattle.at_engine.specs.Keeping.{IsSparingOn}
use Rattle.at_engine.specs.Posted.{posted_view}
use Rattle.at_engine.specs.Telling.{Obeys}
use Rattle.at_engine.specs.declared.posts.Posted.{Posted}
use Rattle.at_engine.proofs.Commands.{post_full, post_last, post_made}
use Rattle.at_engine.proofs.of_turns.Opened.{as_many_posted}
use Rattle.at_engine.proofs.Positions.{all_push}
use Rattle.at_engine.proofs.PostedForLemmas.{posted_on, pushed_for, sparing_on}
use Rattle.at_engine.proofs.Storing.{on_err, sound_push}
use Rattle.at_engine.proofs.of_keeping.Fulfilling.{failed_so, quiet_so, refused_so}
use Rattle.at_engine.proofs.of_keeping.KeepingLemmas.{if_any, post_quiet}
use Rattle.at_engine.proofs.engine.Engine.post.Goals as goal

pub returns-then-is_full : goal.returns-then-is_full
returns-then-is_full g c =
    let e = c.args.self.now in
    refused_so g.K.Keeper.contents g.K.Keeper.memories e c.requires.sound _ refusal.Limit
    (post_full (rules_of e) (state_of e) c.args.session (place_view c.args.place.now) c.args.attribute.now (arguments_view c.args.arguments.now)
    (ap (nat_le 100) (as_many_posted (path e.store) c.args.session e.posts.items.items) ∙ sym c.if-is_full.ensures))

pub returns-in_default : goal.returns-in_default
returns-in_default g c =
    let e = c.args.self.now in
    refused_so g.K.Keeper.contents g.K.Keeper.memories e c.requires.sound _ refusal.Limit
    (post_last (rules_of e) (state_of e) c.args.session (place_view c.args.place.now) c.args.attribute.now (arguments_view c.args.arguments.now)
    (ap (nat_le 100) (as_many_posted (path e.store) c.args.session e.posts.items.items) ∙ sym c.if-is_full.ensures) (eq-eqb e.posts.count last_post c.in_default.ensures))

pub returns-in_err-posted : goal.returns-in_err-posted
returns-in_err-posted g c =
    let p = err_from_is_err_and c.from_residual.result c.from_residual.ensures.1 in
    failed_so g.K.Keeper.contents g.K.Keeper.memories c.args.self.now c.requires.sound _ c.from_residual.result p.0 p.1

pub returns-in_err-push : goal.returns-in_err-push
returns-in_err-push g c =
    let e = c.args.self.now in
    let new = record e { posts = c.push.new.self } in
    let k = g.K.Keeper.contents e.demand.keeper in
    let s = c.requires.sound in
    let result = c.from_residual-in_err-push.result in
    let p = err_from_is_err_and result c.from_residual-in_err-push.ensures.1 in
    let same = c.in_err-push.ensures.err in
    let Numbered : List Posted → ℕ → Type 0 = λ l n. AreNumbered 0 (map (posted_view (path e.store)) l) n in
    let stays : Continues g.K.Keeper.contents g.K.Keeper.memories e new = record {
      rules = refl;
      settings = refl;
      known = λ k. k;
      sound = record {
        idle = s.idle;
        sound = s.sound;
        conforming = s.conforming;
        marked = s.marked;
        right = s.right;
        typed = s.typed;
        remembered = s.remembered;
        posted = subst (AllByRecursion (IsPostedOn (rules_of e) e.store k)) (sym same.0) s.posted;
        numbered = subst (λ (l : List Posted). Numbered l new.posts.count) (sym same.0) (subst (Numbered e.posts.items.items) (sym same.1) s.numbered);
      };
    } in
    let state = ap₂ (λ (l : List Posted) (n : ℕ). record (state_of e) { posts = n; posted = map (posted_view (path e.store)) l }) same.0 same.1 in
    quiet_so g.K.Keeper.contents g.K.Keeper.memories e new _ result refl refl refl stays
    (if_any result _ (post_quiet (rules_of e) (state_of e) c.args.session (place_view c.args.place.now) c.args.attribute.now (arguments_view c.args.arguments.now))) (rw p.1 tt) (on_err result _ state)
    (λ it. record {
      unbounded = it.unbounded;
      spare = record {
        kept = it.spare.kept;
        posted' = subst (AllByRecursion (λ (p : Posted). IsSparingOn (rules_of e) (contents e.store) k p.question)) (sym same.0) it.spare.posted';
      };
    })

pub returns : goal.returns
returns g c =
    let e = c.args.self.now in
    let place = place_view c.args.place.now in
    let name = c.args.attribute.now in
    let arguments = arguments_view c.args.arguments.now in
    let new = record e { posts = c.push.new.self } in
    let k = g.K.Keeper.contents e.demand.keeper in
    let h = c.in_ok-posted.ensures in
    let is = pushed_for (rules_of e) e.store e.version (marks_of e) e.posts new.posts c.in-Some.number c.args.session place name arguments c.in_ok-posted.posted h c.requires.sound.marked c.in_ok-push.ensures.items c.in_ok-push.ensures.count c.in-Some.ensures.0 in
    let made = post_made (rules_of e) (state_of e) c.args.session place name arguments
    (ap (nat_le 100) (as_many_posted (path e.store) c.args.session e.posts.items.items) ∙ sym c.if-is_full.ensures)
    (ne_eqb e.posts.count last_post (λ (same : e.posts.count ≡ last_post). omega (arith, same, c.in-Some.ensures.1))) (state_of new) is in
    let on = posted_on (rules_of e) e.store k c.in-Some.number c.args.session place name arguments (marks_of e) c.in_ok-posted.posted h c.requires.named c.requires.sound.marked in
    let stays : Continues g.K.Keeper.contents g.K.Keeper.memories e new = record {
      rules = refl;
      settings = refl;
      known = λ k. k;
      sound = sound_push (rules_of e) e.store (marks_of e) e.posts new.posts c.in_ok-posted.posted k c.in_ok-push.ensures.items c.in_ok-push.ensures.count (h.is_number ∙ c.in-Some.ensures.0) on c.requires.sound;
    } in
    let Sparing : Posted → Type 0 = λ p. IsSparingOn (rules_of e) (contents e.store) k p.question in
    let begins = sparing_on (rules_of e) (contents e.store) k c.in_ok-posted.posted.question h.is_new in
    quiet_so g.K.Keeper.contents g.K.Keeper.memories e new _ (Ok (form.Open c.in-Some.number)) refl refl refl stays (post_quiet (rules_of e) (state_of e) c.args.session place name arguments)
    (subst (λ (n : ℕ). Obeys (rules_of e) (state_of e) c.args.session (Post place name arguments) (form.Open n) (state_of new)) (sym c.in-Some.ensures.0) made) tt
    (λ it. record {
      unbounded = it.unbounded;
      spare = record {
        kept = it.spare.kept;
        posted' = subst (AllByRecursion Sparing) (sym c.in_ok-push.ensures.items)
            (all_push Sparing e.posts.items.items c.in_ok-posted.posted begins it.spare.posted');
      };
    })

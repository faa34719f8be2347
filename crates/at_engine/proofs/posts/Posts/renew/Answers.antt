use Rattle.std.proofs.Common.{◌≡◌, ◌∙◌, Option, None, Some, ap, arith, refl, subst, sym}
use Rattle.std.proofs.lemmas.Option.{get_or_from_slice_get, slice_get-get_or, slice_get_within}
use Rattle.at_store.specs.Shown.{path}
use Rattle.at_engine.specs.Posted.{IsBegunAnew}
use Rattle.at_engine.specs.declared.posts.Posted.{Posted}
use Rattle.at_engine.proofs.posts.Posts.renew.Goals as goal

not_some : {x : Posted} → ◌≡◌ {A = Option Posted} None (Some x) → ⊥
not_some e = absurd cc

pub returns-in-Some : goal.returns-in-Some
returns-in-Some c = record {
  count = refl;
  renewed = λ p there. (
      let is = c.in-Some.ensures.value ∙ get_or_from_slice_get c.args.self.now.items.items c.args.position p c.in-Some.posted.now there in
      let anew = subst (λ (x : Posted). IsBegunAnew (path c.args.there.now.store.now) x c.begin_anew.new.self) is c.begin_anew.ensures in
      record { again = c.begin_anew.new.self; anew = anew; items = refl }
      );
  none = λ empty. absurd (not_some (sym empty ∙ slice_get-get_or c.args.self.now.items.items c.args.position c.in-Some.posted.now
      c.in-Some.ensures.item.3.0 ∙ sym (ap Some c.in-Some.ensures.value)));
}

pub returns-in_default : goal.returns-in_default
returns-in_default c = record {
  count = refl;
  renewed = λ p there. absurd (omega (arith, slice_get_within c.args.self.now.items.items c.args.position p there, c.in_default.ensures.item.3));
  none = λ empty. refl;
}

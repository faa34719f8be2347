-- Of what is kept spare, an edit leaves just what rests on nothing that it touches, and that is spare.
use Rattle.std.proofs.Common.{◌≡◌, ◌↔◌, ℕ, Bool, true, false, Option, Some, None, inl, inr, refl, sym, ◌∙◌, subst, true≢false}
use Rattle.std.specs.Prelude.{IsSome}
use Rattle.at_model.specs.Trees.{Tree}
use Rattle.at_model.specs.Paths.{Node}
use Rattle.at_model.specs.Run.{Value, Instance, Location, Contents}
use Rattle.at_model.specs.Rules.{Rules}
use Rattle.at_model.specs.of_fixpoints.Fixpoints.{HasValue}
use Rattle.at_model.specs.of_fixpoints.Resting.{Leads, Supports}
use Rattle.at_model.specs.Alike.{InstanceLike, LocationLike, Names, IsInjective}
use Rattle.at_model.specs.Edits.{Edit}
use Rattle.at_model.specs.Touches.{touches_in}
use Rattle.at_cache.specs.Kept.{Kept, Entries, LeavesUntouched, LosesTouched, value_at}
use Rattle.at_evaluate.specs.Valued.{meaning}
use Rattle.at_evaluate.specs.Sparing.{IsDeep, AreSpare}
use Rattle.at_evaluate.proofs.Entered.{entered}
use Rattle.at_evaluate.proofs.LeadingOn.{supports_on}
use Rattle.at_demand.proofs.of_keeping.Staying.{IsOver, support_later, led_before, located}

pub some_kept : (o : Option Kept) → IsSome o → (k : Kept) × (o ≡ Some k)
some_kept None some = absurd (true≢false (sym some))
some_kept (Some k) some = (k, refl)

-- the answer for a location is whether the edit of the tree touches it, where it is one of the tree
abbrev pub Says : (ℕ → Option Node) → Tree → Edit → Location ℕ → Bool → Type 0
Says path t e l b = (m : Location Node) → LocationLike (Names path) l m → touches_in t e m ≡ b

module _ (rules : Rules) {e : Edit} {t u : Tree} {path later : ℕ → Option Node} {old new : Contents ℕ} (over : IsOver rules.classes e t u path later old new) (named_once : IsInjective path) (before after : Entries)
    (valued : (i : Instance ℕ) (k : Kept) → before i ≡ Some k → (v : Value ℕ) × HasValue old (meaning rules) i v)
    (there : (i : Instance ℕ) (k : Kept) → before i ≡ Some k → (j : Instance Node) × InstanceLike (Names path) i j)
    (covers : (i : Instance ℕ) (k : Kept) → before i ≡ Some k → (l : Location ℕ) → Supports old (meaning rules) l i → k.covers l ≡ true)
    (spare : AreSpare rules old before) (leaves : LeavesUntouched (Says path t e) before after)
    (loses : LosesTouched (Says path t e) before after) where
  abbrev pub IsFree : Instance ℕ → Type 0
  IsFree i = (l : Location ℕ) → Supports old (meaning rules) l i → Says path t e l false

  -- what is left
  module _ (i : Instance ℕ) (k : Kept) (left : after i ≡ Some k) where
    was : before i ≡ Some k
    was = (leaves i k left).0

    free : IsFree i
    free l rests = (leaves i k left).1 l (covers i k was l rests)

    only_after : (l : Location ℕ) → k.covers l ≡ true → Supports new (meaning rules) l i
    only_after l has = let (j, like) = there i k was in support_later rules over i j like free l (spare.only i k was l has)

    led_was : (j : Instance ℕ) → Leads new (meaning rules) i j → Leads old (meaning rules) i j
    led_was j led = let (m, like) = there i k was in let (v, has) = valued i k was in led_before rules over i m like free v has j led

  -- what was kept and isn't touched
  pub stays_free : (i : Instance ℕ) (k : Kept) → before i ≡ Some k → IsFree i → after i ≡ Some k
  stays_free i k at free_i = elim (loses i k at) [
    | inl same ↦ same
    | inr (l, has, touched) ↦
        let rests = spare.only i k at l has in
        let (j, like) = there i k at in
        let (m, named) = located rules over named_once i j like l rests in
        absurd (true≢false (sym (touched m named) ∙ free_i l rests m named))
  ]

  -- no more and no less is left
  pub leaves_just : (i : Instance ℕ) (k : Kept) → (after i ≡ Some k) ↔ ((before i ≡ Some k) × IsFree i)
  leaves_just i k = (λ left. (was i k left, free i k left), λ h. stays_free i k h.0 h.1)

  deep_after : IsDeep rules new after after
  deep_after i j some leads lazy =
      let (k, left) = some_kept (after i) some in
      let led = led_was i k left j leads in
      let kept = spare.deep i j (subst IsSome (sym (was i k left)) refl) led lazy in
      let (d, at) = some_kept (before j) (entered before j kept) in
      subst (λ o. IsSome (value_at o)) (at ∙ sym (stays_free j d at (λ l rests. free i k left l (supports_on old (meaning rules) i j l led rests)))) kept

  pub spare_after : AreSpare rules new after
  spare_after = record {
    only = λ i k left. only_after i k left;
    lazy = λ i some. let (k, left) = some_kept (after i) (entered after i some) in spare.lazy i (subst (λ o. IsSome (value_at o)) (left ∙ sym (was i k left)) some);
    deep = deep_after;
  }

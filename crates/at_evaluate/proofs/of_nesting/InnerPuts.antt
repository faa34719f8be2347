-- A value that was evaluated with inner ones, and is put for all that was looked at and taken, leaves what is kept
-- right and spare.
use Rattle.std.proofs.Common.{◌≡◌, ◌⊎◌, ◌||◌, ℕ, Bool, true, false, not, List, Option, Some, None, inl, inr, refl, sym, ap, ◌∙◌, subst, if◌then◌else◌, true≢false}
use Rattle.std.specs.Prelude.{IsSome}
use Rattle.std.proofs.lemmas.Option.{none-some, same_Some}
use Rattle.at_model.specs.Run.{Value, Instance, Location, Contents, Known}
use Rattle.at_model.specs.Rules.{Rules, is_lazy, start_of}
use Rattle.at_model.specs.Meaning.{Among}
use Rattle.at_model.specs.of_fixpoints.Fixpoints.{HasValue}
use Rattle.at_model.specs.of_fixpoints.Resting.{Leads, stays, Supports}
use Rattle.at_model.specs.Nested.{Evaluates, IsGround}
use Rattle.at_model.proofs.Options.{or_right}
use Rattle.at_model.proofs.of_nesting.Nesting.{evaluates_value, covered as all_covered, only as only_supports, takes, taken_known, led}
use Rattle.at_body.specs.Same.{same_instance}
use Rattle.at_cache.specs.Kept.{Kept, Entries, Puts, covered, covers_at, value_at}
use Rattle.at_index.specs.Sameness.{same_location}
use Rattle.at_index.proofs.Locations.{same_location-is, same_location-itself}
use Rattle.at_evaluate.specs.Valued.{equations, meaning, kept_values, ArePlain, IsKept, KeepsEntries}
use Rattle.at_evaluate.specs.Right.{AreCovered}
use Rattle.at_evaluate.specs.Sparing.{AddsWorthy, AreOnly, AreSpare, IsDeep, IsWorthy}
use Rattle.at_evaluate.specs.Inner.{is_inner}
use Rattle.at_evaluate.specs.Meant.{AreRightValues}
use Rattle.at_evaluate.proofs.Entered.{is_there, kept_on, not_none, there as is_some}
use Rattle.at_evaluate.proofs.Tests.{any_among, any_one}
use Rattle.at_evaluate.proofs.LeadingOn.{supports_on}
use Rattle.at_evaluate.proofs.Sameness.{same_true}

left : (a b : Bool) → a ≡ true → (a || b) ≡ true
left true b e = refl
left false b e = absurd (true≢false (sym e))

one_of : (a b : Bool) → (a || b) ≡ true → (a ≡ true) ⊎ (b ≡ true)
one_of true b h = inl refl
one_of false b h = inr h

not_inner : (b : Bool) → not b ≡ true → b ≡ true → ⊥
not_inner true e h = true≢false (sym e)
not_inner false e h = true≢false (sym h)

-- what is put of an instance: its value where its attribute is lazy, and none where it isn't
abbrev pub IsFit : Rules → Instance ℕ → Value ℕ → Option (Value ℕ) → Type 0
IsFit rules i v o = ((o ≡ Some v) × (is_lazy rules i.attribute ≡ true)) ⊎ ((o ≡ None) × (is_lazy rules i.attribute ≡
    false))

module _ (rules : Rules) (look : Contents ℕ) (old new : Entries) (known : Known ℕ) (n : ℕ) (i : Instance
    ℕ) (v : Value ℕ) (o : Option (Value ℕ))
    (ls : List (Location ℕ)) (us : List (Instance ℕ)) (ground : IsGround look (equations rules) (meaning rules) known (is_inner rules))
    (own : start_of rules i.attribute ≡ None) (there : (u : Instance
    ℕ) (w : Value ℕ) → known u ≡ Some w → IsSome (old u))
    (fit : IsFit rules i v o) (absent : old i ≡ None) (ev : Evaluates look (equations rules) known (is_inner rules) n
    (equations rules i) v ls us) (puts : Puts old i o ls us new) where
  pub holds : HasValue look (meaning rules) i v
  holds = evaluates_value look (equations rules) (meaning rules) known (is_inner rules) ground n i v ls us own ev

  -- what stands there now
  cases : (j : Instance ℕ) → (new j ≡ old j) ⊎ ((i ≡ j) × (new j ≡ Some puts.entry))
  cases j = by (same_instance i j) refl
    where
      by : (t : Bool) → same_instance i j ≡ t → (new j ≡ old j) ⊎ ((i ≡ j) × (new j ≡ Some puts.entry))
      by true at = inr (same_true i j at, puts.adds j ∙ ap (λ t. if t then Some puts.entry else old j) at)
      by false at = inl (puts.adds j ∙ ap (λ t. if t then Some puts.entry else old j) at)

  value_now : (j : Instance ℕ) → new j ≡ Some puts.entry → kept_values new j ≡ o
  value_now j e = ap value_at e ∙ puts.value

  -- a value is there only of a lazy one
  valued_now : (w : Value ℕ) → o ≡ Some w → (v ≡ w) × (is_lazy rules i.attribute ≡ true)
  valued_now w e = elim fit [ inl p ↦ (same_Some v w (sym p.0 ∙ e), p.1) | inr p ↦ absurd (none-some w (sym p.0 ∙ e)) ]

  pub stays_now : KeepsEntries old new
  stays_now j some = elim (cases j) [
    | inl same ↦ same
    | inr p ↦ absurd (not_none (old j) some (subst (λ x. old x ≡
        None) p.0 absent))
  ]

  pub right_now : AreRightValues look (meaning rules) (kept_values old) → AreRightValues look (meaning rules) (kept_values new)
  right_now all j w e = elim (cases j) [
    | inl same ↦ all j w (sym (ap value_at same) ∙ e)
    | inr p ↦ let is = (valued_now w (sym (value_now j p.1) ∙ e)).0 in subst (λ x. HasValue look (meaning rules) j x)
        is (subst (λ x. HasValue look (meaning rules) x v) p.0 holds)
  ]

  pub plain_now : ArePlain rules old → ArePlain rules new
  plain_now plain j k is none = elim (cases j) [
    | inl same ↦ plain j k (sym same ∙ is) none
    | inr p ↦
        let is' : puts.entry ≡ k = same_Some puts.entry k (sym p.1 ∙ is) in
        let nothing : o ≡ None = sym puts.value ∙ ap (λ (x : Kept). x.value) is' ∙ none in
        elim fit [
          | inl q ↦ absurd (none-some v (sym nothing ∙ q.0))
          | inr q ↦ subst (λ (x : Instance ℕ). is_lazy rules
              x.attribute ≡ false) p.0 q.1
        ]
  ]

  -- what was taken has an entry
  taken : (u : Instance ℕ) → Among u us → IsSome (old u)
  taken u a = let (w, e) = taken_known look (equations rules) known (is_inner rules) n i v ls us ev u a in there u
      w e

  -- all that supports the instance is covered
  covered_all : AreCovered rules look old → (l : Location ℕ) → Supports look (meaning rules) l i →
      covered old ls us l ≡ true
  covered_all covers l h = elim (all_covered look (equations rules) (meaning rules) known (is_inner rules) ground n i v ls us own ev l h) [
    | inl a ↦ left _ _ (any_among (same_location l) l ls a (same_location-itself l))
    | inr q ↦ or_right _ _ (any_among (λ u. covers_at (old u) l) q.0 us q.1 (by q.0 q.2 (old q.0) refl (taken q.0 q.1)))
  ]
    where
      by : (u : Instance ℕ) → Supports look (meaning rules) l u → (k : Option Kept) → old u ≡ k → IsSome k →
          covers_at k l ≡ true
      by u s None e some = absurd (true≢false (sym some))
      by u s (Some k) e some = covers u k e l s

  pub covers_now : AreCovered rules look old → AreCovered rules look new
  covers_now covers m k is l h = elim (cases m) [
    | inl same ↦ covers m k (sym same ∙ is) l h
    | inr p ↦
        let same : puts.entry ≡ k = same_Some puts.entry k (sym p.1 ∙ is) in
        ap (λ (x : Kept). x.covers l) (sym same) ∙ puts.covers l (covered_all covers l (subst (λ x. Supports look
        (meaning rules) l x) (sym p.0) h))
  ]

  -- and nothing else
  covered_supports : AreOnly rules look old → (l : Location ℕ) → covered old ls us l ≡ true →
      Supports look (meaning rules) l i
  covered_supports only l h = elim (one_of _ _ h) [
    | inl a ↦ (let (m, among, is) = any_one (same_location l) ls a in
        only_supports look (equations rules) (meaning rules) known (is_inner rules) ground n i v ls us own ev l (subst (λ x. Among x ls) (sym
        (same_location-is l m is)) among))
    | inr b ↦ (let (u, among, is) = any_one (λ u. covers_at (old u) l) us b in
        supports_on look (meaning rules) i u l (takes look (equations rules) (meaning rules) known (is_inner rules) ground n i v ls us own ev
        u among) (by u (old u) refl is))
  ]
    where
      by : (u : Instance ℕ) (k : Option Kept) → old u ≡ k → covers_at k l ≡ true → Supports look (meaning rules) l u
      by u None is c = absurd (true≢false (sym c))
      by u (Some k) is c = only u k is l c

  pub spare_now : AreSpare rules look old → AreSpare rules look new
  spare_now spare = record { only = only_now; lazy = lazy_now; deep = deep_now }
    where
      only_now : AreOnly rules look new
      only_now m k is l h = elim (cases m) [
        | inl same ↦ spare.only m k (sym same ∙ is) l h
        | inr p ↦
            let same : puts.entry ≡ k = same_Some puts.entry k (sym p.1 ∙ is) in
            subst (Supports look (meaning rules) l) p.0 (covered_supports spare.only l (puts.only l (ap (λ (x :
            Kept). x.covers l) same ∙ h)))
      ]

      lazy_now : (j : Instance ℕ) → IsKept new j → is_lazy rules j.attribute ≡ true
      lazy_now j kept = elim (cases j) [
        | inl same ↦ spare.lazy j (subst (λ k. IsSome (value_at k)) same kept)
        | inr p ↦ (let (w, e) = is_some (kept_values new j) kept in subst (λ (x : Instance ℕ). is_lazy rules
            x.attribute ≡ true) p.0 (valued_now w (sym (value_now j p.1) ∙ e)).1)
      ]

      itself : is_lazy rules i.attribute ≡ true → new i ≡ Some puts.entry → IsKept new i
      itself lazy here = elim fit [
        | inl p ↦ is_there (kept_values new i) v (value_now i here ∙ p.0)
        | inr p ↦ absurd
            (true≢false (sym lazy ∙ p.1))
      ]

      below : (m : Instance ℕ) → Leads look (meaning rules) i m → is_lazy rules m.attribute ≡ true →
          new i ≡ Some puts.entry → IsKept new m
      below m leads is here = elim (led look (equations rules) (meaning rules) known (is_inner rules) ground n i v ls us own ev m leads) [
        | inl same ↦ subst (IsKept new) same (itself (subst (λ (x : Instance ℕ). is_lazy rules x.attribute ≡ true) (sym
            same) is) here)
        | inr q ↦ elim q [
          | inl inner ↦ absurd (not_inner (is_lazy rules m.attribute) inner is)
          | inr r ↦ kept_on old new stays_now m (spare.deep r.0 m (taken r.0 r.1) r.2 is)
        ]
      ]

      deep_now : IsDeep rules look new new
      deep_now j m some leads is = elim (cases j) [
        | inl same ↦ kept_on old new stays_now m (spare.deep j m (subst IsSome same some) leads is)
        | inr p ↦ below m (subst (λ x. Leads look (meaning rules) x m) (sym p.0) leads) is (subst (λ x. new x ≡ Some
            puts.entry) (sym p.0) p.1)
      ]

  pub worthy_now : AddsWorthy rules look i old new
  worthy_now = record { stays = stays_now; worthy = came }
    where
      came : (j : Instance ℕ) → kept_values old j ≡ None → IsKept new j → IsWorthy rules look i j
      came j none kept = elim (cases j) [
        | inl same ↦ absurd (not_none (kept_values new j) kept (ap value_at same ∙ none))
        | inr p ↦ (let (w, e) = is_some (kept_values new j) kept in
            record {
              reached = subst (λ x. Leads look (meaning rules) i x) p.0 (stays i);
              lazy = subst (λ (x : Instance ℕ). is_lazy rules x.attribute ≡ true) p.0
                  (valued_now w (sym (value_now j p.1) ∙ e)).1;
              value = v;
              has = subst (λ x. HasValue look (meaning
                  rules) x v) p.0 holds;
            })
      ]

  -- what holds of each instance with an entry holds still
  pub all_now : (P : Instance ℕ → Type 0) → ((j : Instance ℕ) (k : Kept) → old j ≡ Some k → P j) → P i →
      (j : Instance ℕ) (k : Kept) → new j ≡ Some k → P j
  all_now P all one j k is = elim (cases j) [ inl same ↦ all j k (sym same ∙ is) | inr p ↦ subst P p.0 one ]

  -- without a value nothing comes but an entry
  pub same_values : o ≡ None → (j : Instance ℕ) → kept_values new j ≡ kept_values old j
  same_values none j = elim (cases j) [
    | inl same ↦ ap value_at same
    | inr p ↦ value_now j p.1 ∙ none ∙ sym (ap value_at (subst (λ x. old x ≡ None) p.0 absent))
  ]

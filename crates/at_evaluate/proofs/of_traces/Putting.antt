-- What is put as its evaluation took it is justified, and what was looked at for it is of the tree.
use Rattle.std.proofs.Common.{◌≡◌, ℕ, true, List, Option, Some, None, inl, inr, refl, sym, ◌∙◌, subst, true≢false}
use Rattle.std.proofs.lemmas.Option.{same_Some}
use Rattle.at_model.specs.Run.{Value, Instance, Location}
use Rattle.at_model.specs.Rules.{Rules, is_lazy, start_of}
use Rattle.at_model.specs.Meaning.{Among}
use Rattle.at_model.specs.of_fixpoints.Resting.{Leads}
use Rattle.at_model.proofs.of_nesting.Nesting.{only, taken_known}
use Rattle.at_store.specs.Shown.{Shown, IsIdle, contents}
use Rattle.at_cache.specs.Kept.{Entries, Puts}
use Rattle.at_index.specs.Sameness.{same_location}
use Rattle.at_cache.specs.declared.keeper.Order.{Order}
use Rattle.at_cache.specs.declared.keeper.Order.TheVariants as order
use Rattle.at_cache.specs.Traced.{IsTraceOf, Memories, PutsTrace, StayTraced, Trace}
use Rattle.at_index.proofs.Locations.{same_location-is, same_location-itself}
use Rattle.at_evaluate.specs.Valued.{equations, meaning, kept_values, KeepsEntries}
use Rattle.at_evaluate.specs.Right.{IsThere}
use Rattle.at_evaluate.specs.Inner.{AreKnown, AreLazy, IsEvaluated, is_inner, known_by, remembered}
use Rattle.at_evaluate.specs.Traces.{AreJustified, AreOfTree, IsJustified, StayJustified}
use Rattle.at_evaluate.proofs.Entered.{put_stays, value_on}
use Rattle.at_evaluate.proofs.Tests.{any_among, any_one}
use Rattle.at_evaluate.proofs.There.{led_there}
use Rattle.at_evaluate.proofs.of_nesting.InnerGains.{Found}
use Rattle.at_evaluate.proofs.of_nesting.Remembered.{ground_by}
use Rattle.at_evaluate.proofs.of_traces.Justified.{contains_of, justified_still, stay_justified, stay_there}
use Rattle.at_evaluate.proofs.of_traces.OfTree.{supported_there}
use Rattle.at_evaluate.proofs.of_traces.SameWay.{AreAlike, evaluates_same}
use Rattle.at_evaluate.proofs.of_traces.Settled.{LastKept}

module _ (rules : Rules) (s : Shown) where
  -- what can be kept again is as it was, or is gone
  pub traced_on : (i : Instance ℕ) (before later : Memories) → StayTraced before later →
      AreJustified rules (contents s) before → StayJustified rules s i before later
  traced_on i before later stay r = record {
    justified = stay_justified rules (contents s) before later stay r;
    there = λ there all. stay_there s before later stay all;
  }

  pub traced_same : (i : Instance ℕ) (m : Memories) → AreJustified rules (contents s) m →
      StayJustified rules s i m m
  traced_same i m r = record { justified = r; there = λ there all. all }

  -- first for an instance, and then again
  pub traced_then : (i : Instance ℕ) (first next last : Memories) → StayJustified rules s i first next →
      StayJustified rules s i next last → StayJustified rules s i first last
  traced_then i first next last a b = record {
    justified = b.justified;
    there = λ there all. b.there there (a.there there all);
  }

  -- for an instance, and for one that leads to it
  pub traced_up : IsIdle s → (i j : Instance ℕ) (before later : Memories) →
      Leads (contents s) (meaning rules) i j → StayJustified rules s j before later →
      StayJustified rules s i before later
  traced_up idle i j before later led a = record {
    justified = a.justified;
    there = λ there all. a.there (led_there rules s idle i j there led) all;
  }

  -- what is known of a lazy instance is kept
  known_kept : (entries : Entries) (f : Found) → AreKnown rules (contents s) entries f → (u : Instance ℕ) (w : Value ℕ)
      →
      known_by entries f u ≡ Some w → is_lazy rules u.attribute ≡ true → kept_values entries u ≡ Some w
  known_kept entries f known u w e lazy = by (kept_values entries u) refl e
    where
      by : (o : Option (Value ℕ)) → kept_values entries u ≡ o →
          ◌≡◌ {A = Option (Value ℕ)} (elim o [ Some v ↦ Some v | None ↦ remembered f u ]) (Some w) →
          kept_values entries u ≡ Some w
      by None at found = absurd (true≢false (sym lazy ∙ known.inner u w found))
      by (Some v) at same = at ∙ same

  module _ (idle : IsIdle s) (i : Instance ℕ) (entries new : Entries) (f : Found) (v : Value ℕ)
      (ls : List (Location ℕ)) (us : List (Instance ℕ)) (o : Order) (m m' : Memories)
      (known : AreKnown rules (contents s) entries f) (own : start_of rules i.attribute ≡ None)
      (come : IsEvaluated rules (contents s) (known_by entries f) i v ls us)
      (lazy : is_lazy rules i.attribute ≡ true) (ordered : o ≡ order.AsTaken → AreLazy rules us)
      (stays : KeepsEntries entries new) (last : LastKept m' new) (puts : PutsTrace i (Some v) ls us o m m')
      (r : AreJustified rules (contents s) m) where
    -- what it took was known by its last value
    took_last : o ≡ order.AsTaken → AreAlike (known_by entries f) m'.last us
    took_last is u h =
        let (w, e) = taken_known (contents s) (equations rules) (known_by entries f) (is_inner rules) come.0 i v ls us
        come.1 u h in
        let kept = known_kept entries f known u w e (ordered is u (contains_of us u h)) in
        last u w (value_on entries new stays u w kept) ∙ sym e

    -- what it looked at
    looked : (t : Trace) → IsTraceOf i (Some v) ls us o m' t → (l : Location ℕ) → t.reads l ≡ true → Among l ls
    looked t h l e =
        let (k, among, is) = any_one (same_location l) ls (sym (h.reads l) ∙ e) in
        subst (λ x. Among x ls) (sym (same_location-is l k is)) among

    mine : (t : Trace) → IsTraceOf i (Some v) ls us o m' t →
        IsJustified (contents s) (equations rules) m'.last (is_inner rules) i t
    mine t h =
        let way = evaluates_same (contents s) (contents s) (known_by entries f) m'.last (equations rules) (is_inner rules)
        come.0 (equations rules i) v ls us come.1 (λ l a. refl) (took_last h.ordered) in
        record {
          depth = come.0;
          looks = ls;
          evaluates = rw (← same_Some v t.value h.value, h.uses) way;
          reads = λ l a. h.reads l ∙ any_among (same_location l) l ls a (same_location-itself l);
          looked = looked t h;
        }

    put_justified : AreJustified rules (contents s) m'
    put_justified = record {
      lazily = λ j t is. elim (puts j t is) [
        | inl still ↦ r.lazily j t still.traced
        | inr h ↦ subst (λ (x : Instance ℕ). is_lazy rules x.attribute ≡ true) h.0 lazy
      ];
      own = λ j t is. elim (puts j t is) [
        | inl still ↦ r.own j t still.traced
        | inr h ↦ subst (λ (x : Instance ℕ). start_of rules x.attribute ≡ None) h.0 own
      ];
      value = λ j t is. elim (puts j t is) [
        | inl still ↦ still.value ∙ r.value j t still.traced
        | inr h ↦ subst (λ (x : Instance ℕ). m'.last x ≡ Some t.value) h.0 h.1.last
      ];
      justified = λ j t is. elim (puts j t is) [
        | inl still ↦ justified_still rules (contents s) m m' r j t still
        | inr h ↦ subst (λ (x : Instance ℕ). IsJustified (contents s) (equations rules) m'.last (is_inner rules) x t) h.0
            (mine t h.1)
      ];
    }

    put_there : IsThere s i → AreOfTree s m → AreOfTree s m'
    put_there there all j t l is reads = elim (puts j t is) [
      | inl still ↦ all j t l still.traced reads
      | inr h ↦ supported_there rules s idle i l there (only (contents s) (equations rules) (meaning rules)
          (known_by entries f) (is_inner rules) (ground_by rules (contents s) entries f known) come.0 i v ls us own come.1 l (looked t h.1 l reads))
    ]

    pub put_traced : StayJustified rules s i m m'
    put_traced = record { justified = put_justified; there = put_there }

-- what was entered stays where an entry was put
pub stays_put : (old new : Entries) (i : Instance ℕ) (o : Option (Value ℕ)) (ls : List (Location ℕ))
    (us : List (Instance ℕ)) → old i ≡ None → Puts old i o ls us new → KeepsEntries old new
stays_put old new i o ls us absent h = λ j some. put_stays old new i h.entry absent h.adds j some

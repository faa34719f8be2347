-- What grows while an evaluation in one go goes on: how it begins, goes on, and counts for who asks, and what is kept or remembered.
use Rattle.std.proofs.Common.{◌≡◌, ℕ, ◌<◌, ◌+◌, ◌-◌, ◌^◌, min, Bool, true, false, List, Option, Some, None, inl, inr, refl, sym, subst}
use Rattle.std.specs.Option.{IfSome}
use Rattle.std.specs.Prelude.{◌≢◌, IsSome}
use Rattle.indexmap.specs.IndexMap.{insert_entry}
use Rattle.at_model.specs.Run.{Contents, Instance, Known, Location, Value}
use Rattle.at_model.specs.Rules.{Rules, is_lazy, start_of}
use Rattle.at_model.specs.Nested.{IsGround}
use Rattle.at_model.specs.of_fixpoints.Fixpoints.{HasValue}
use Rattle.at_model.specs.of_fixpoints.Resting.{Leads, stays, goes}
use Rattle.at_model.proofs.of_nesting.Nesting.{evaluates_more, own_comes, reaches_own, waits_apart}
use Rattle.at_store.specs.Shown.{Shown, IsIdle, contents}
use Rattle.at_body.specs.Same.{same_instance}
use Rattle.at_body.specs.Values.{value_view}
use Rattle.at_body.specs.declared.value.Value.{Value as ValueCode}
use Rattle.at_cache.specs.Kept.{Entries, KeepsAll, Puts}
use Rattle.at_cache.specs.Traced.{AreAlike, Memories, PutsTrace, Settled, StayTraced}
use Rattle.at_cache.specs.declared.keeper.Order.{Order}
use Rattle.at_cache.specs.declared.keeper.Order.TheVariants as order
use Rattle.at_evaluate.specs.declared.direct.Level.{Level}
use Rattle.at_evaluate.specs.Valued.{equations, kept_values, meaning}
use Rattle.at_evaluate.specs.Inner.{AreLazy, Gains, IsEvaluated, is_inner, known_by}
use Rattle.at_evaluate.specs.InParts.{HasGained, HasGrown, Held, IsEvaluatedFor, IsHeld, IsUnkept, held, values_in}
use Rattle.at_evaluate.specs.Made.{Makes}
use Rattle.at_evaluate.specs.Sparing.{Counts}
use Rattle.at_evaluate.specs.Led.{DemandsOn, goes as goes_on}
use Rattle.at_evaluate.proofs.Entered.{is_there}
use Rattle.at_evaluate.proofs.of_nesting.Demanding.{demanded_none, demanded_put, demanded_same, demanded_then, demanded_up, demands_lead}
use Rattle.at_evaluate.proofs.of_nesting.Ground.{demands_own}
use Rattle.at_evaluate.proofs.of_nesting.Asked.{gains_evaluated, traced_evaluated}
use Rattle.at_evaluate.proofs.of_nesting.InnerGains.{Found, counts_shared_so, gains_as, gains_more, gains_none, gains_put, gains_same, gains_then, gains_up, more_known, valued}
use Rattle.at_evaluate.proofs.of_nesting.Remembered.{ground_by, known_on}
use Rattle.at_evaluate.proofs.of_traces.Making.{makes_as, makes_from, makes_none, makes_settled, makes_then}
use Rattle.at_evaluate.proofs.of_traces.Putting.{put_traced, stays_put, traced_on, traced_same, traced_then, traced_up}
use Rattle.at_evaluate.proofs.of_traces.Settled.{LastKept, settled_demanded, settled_gains}

-- nothing comes
pub grown_none : (rules : Rules) (s : Shown) (i : Instance ℕ) (h : Held) → h.work < 2 ^ 64 →
    IsHeld rules (contents s) h → HasGrown rules s i h h
grown_none rules s i h few is = record {
  gains = gains_none rules s i h.entries h.found h.work few is.known;
  demanded = demanded_none (contents s) (meaning rules) i (kept_values h.entries);
  traces = traced_same rules s i h.memories is.justified;
  makes = makes_none h.entries h.memories h.made;
}

-- first one part comes, and then another one
pub grown_then : {rules : Rules} {s : Shown} {i : Instance ℕ} {old mid new : Held} →
    HasGrown rules s i old mid → HasGrown rules s i mid new → HasGrown rules s i old new
grown_then {rules} {s} {i} {old} {mid} {new} a b = record {
  gains = gains_then rules s i old.entries mid.entries new.entries old.found mid.found new.found old.work mid.work
      new.work a.gains b.gains;
  demanded = demanded_then (contents s) (meaning rules) i (kept_values old.entries) (kept_values mid.entries)
      (kept_values new.entries) a.demanded b.demanded;
  traces = traced_then rules s i old.memories mid.memories new.memories a.traces b.traces;
  makes = makes_then old.entries mid.entries new.entries old.memories mid.memories new.memories old.made mid.made new.made
      a.gains.worthy.stays b.gains.worthy.stays a.makes b.makes;
}

-- what comes for an instance comes for one from which demands lead to it
pub grown_up : {rules : Rules} {s : Shown} {i j : Instance ℕ} {old new : Held} → IsIdle s →
    DemandsOn (contents s) (meaning rules) i j → HasGrown rules s j old new → HasGrown rules s i old new
grown_up {rules} {s} {i} {j} {old} {new} idle on a =
    let led : Leads (contents s) (meaning rules) i j = demands_lead (contents s) (meaning rules) i j on in record {
      gains = gains_up rules s idle i j old.entries new.entries old.found new.found old.work new.work led a.gains;
      demanded = demanded_up (contents s) (meaning rules) i j (kept_values old.entries) (kept_values new.entries) on
          a.demanded;
      traces = traced_up rules s idle i j old.memories new.memories led a.traces;
      makes = a.makes;
    }

-- from what was remembered and counted so before
pub grown_from : {rules : Rules} {s : Shown} {i : Instance ℕ} {entries : Entries} {m : Memories} {f g : Found}
    {w x k l : ℕ} {new : Held} → g ≡ f → x ≡ w → l ≡ k →
    HasGrown rules s i (held entries m g x l) new → HasGrown rules s i (held entries m f w k) new
grown_from {rules} {s} {i} {entries} {m} {f} {g} {w} {x} {k} {l} {new} e d c a = record {
  gains = subst (λ (z : Found). Gains rules s i entries new.entries z new.found w new.work) e
      (subst (λ (z : ℕ). Gains rules s i entries new.entries g new.found z new.work) d a.gains);
  demanded = a.demanded;
  traces = a.traces;
  makes = makes_from c a.makes;
}

-- behind what came for an instance, what came for one that it leads to, in a level that was given
pub grown_aside : {rules : Rules} {s : Shown} {i j : Instance ℕ} {old new : Held} {entries : Entries}
    {m : Memories} {f g : Found} {w x k l : ℕ} {o : Option (Instance ℕ)} → IsIdle s → o ≡ Some j →
    IfSome o (DemandsOn (contents s) (meaning rules) i) → HasGrown rules s i old (held entries m f w k) →
    g ≡ f → x ≡ w → l ≡ k → HasGrown rules s j (held entries m g x l) new → HasGrown rules s i old new
grown_aside {rules} {s} {i} {j} {old} {new} {entries} {m} {f} {g} {w} {x} {k} {l} {o} idle is led a e d c b =
    let on : DemandsOn (contents s) (meaning rules) i j =
    subst (λ (p : Option (Instance ℕ)). IfSome p (DemandsOn (contents s) (meaning rules) i)) is led in
    grown_then a (grown_up idle on (grown_from e d c b))

-- an instance that isn't circular, and has a value, isn't led to by another one to which it leads
apart_from : (rules : Rules) (look : Contents ℕ) (known : Known ℕ) →
    IsGround look (equations rules) (meaning rules) known (is_inner rules) → (i j : Instance ℕ) (v : Value ℕ) →
    start_of rules i.attribute ≡ None → HasValue look (meaning rules) i v → j ≢ i → Leads look (meaning rules) i j →
    Leads look (meaning rules) j i → ⊥
apart_from rules look known ground _ _ v own has apart (stays i) back = apart refl
apart_from rules look known ground _ j v own has apart (goes i m _ c l) back =
    waits_apart look (meaning rules) i m j v
    (reaches_own look (equations rules) (meaning rules) known (is_inner rules) ground i m own
    (own_comes look (equations rules) (meaning rules) known (is_inner rules) ground i m own c)) l back has

-- no value came of the instance itself, where that is another one
pub unkept_aside : {rules : Rules} {s : Shown} (i : Instance ℕ) {j : Instance ℕ} {old new : Held}
    {o : Option (Instance ℕ)} → start_of rules i.attribute ≡ None → o ≡ Some j →
    IfSome o (DemandsOn (contents s) (meaning rules) i) → IfSome o (λ m. m ≢ i) → HasGrown rules s j old new →
    IsUnkept old i → IsUnkept new i
unkept_aside {rules} {s} i {j} {old} {new} {o} own is led other a none = by (kept_values new.entries i) refl
  where
    apart : j ≢ i
    apart = subst (λ (p : Option (Instance ℕ)). IfSome p (λ m. m ≢ i)) is other

    leads : Leads (contents s) (meaning rules) i j
    leads = demands_lead (contents s) (meaning rules) i j
        (subst (λ (p : Option (Instance ℕ)). IfSome p (DemandsOn (contents s) (meaning rules) i)) is led)

    by : (v : Option (Value ℕ)) → kept_values new.entries i ≡ v → kept_values new.entries i ≡ None
    by None same = same
    by (Some w) same =
        let worth = a.gains.worthy.worthy i none (is_there (kept_values new.entries i) w same) in
        absurd (apart_from rules (contents s) (known_by new.entries new.found)
        (ground_by rules (contents s) new.entries new.found a.gains.known) i j worth.value own worth.has apart leads
        worth.reached)

-- what can be kept again is kept, and counted
pub grown_settled : (rules : Rules) (s : Shown) → IsIdle s → (i : Instance ℕ) (old : Held) (entries : Entries)
    (m : Memories) (n w : ℕ) → IsHeld rules (contents s) old → old.work < 2 ^ 64 → LastKept old.memories old.entries →
    Settled old.memories i n old.entries entries → w ≡ min (old.work + n) (2 ^ 64 - 1) → StayTraced old.memories m →
    AreAlike old.memories m → HasGrown rules s i old (held entries m old.found w old.made)
grown_settled rules s idle i old entries m n w is few last steps counted stay alike = record {
  gains = settled_gains rules s idle old.memories is.justified i n old.entries entries old.found old.work w
      steps few counted is.known last;
  demanded = settled_demanded rules s idle old.memories is.justified i n old.entries entries old.found steps
      is.known last;
  traces = traced_on rules s i old.memories m stay is.justified;
  makes = makes_settled i n old.entries entries old.memories m old.made steps alike;
}

-- then all is right still
pub held_after : {rules : Rules} {s : Shown} {i : Instance ℕ} {old new : Held} →
    HasGrown rules s i old new → IsHeld rules (contents s) new
held_after a = record { known = a.gains.known; justified = a.traces.justified }

-- what came for the evaluation of an instance came for the instance
pub grown_evaluated : (rules : Rules) (s : Shown) → IsIdle s → (i : Instance ℕ) (old new : Held) →
    start_of rules i.attribute ≡ None → HasGained rules s (equations rules i) old new → HasGrown rules s i old new
grown_evaluated rules s idle i old new own h = record {
  gains = gains_evaluated rules s idle i old new own h;
  demanded = λ j none some. let (m, d, on) = h.demanded j none some in
      goes_on i m j (demands_own rules (contents s) i m own d) on;
  traces = traced_evaluated rules s idle i old new own h;
  makes = h.makes;
}

-- a lazy one was evaluated, and is kept: what comes so
module _ {rules : Rules} {s : Shown} {i : Instance ℕ} {old new : Held} {v : Value ℕ} {below : Level}
    (idle : IsIdle s) (is : IsEvaluatedFor rules (contents s) old true i v below) (found : new.found ≡ old.found)
    {us : List (Instance ℕ)} (same : us ≡ below.uses.items) (o : Order) (ordered : o ≡ order.AsTaken → AreLazy rules us)
    (last : LastKept new.memories new.entries)
    (puts : PutsTrace i (Some v) below.reads below.uses.items o old.memories new.memories)
    (counts : Counts old.entries new.entries old.work new.work)
    (makes : Makes old.entries new.entries old.memories new.memories old.made new.made) where
  pub grown_kept : old.entries i ≡ None → Puts old.entries i (Some v) below.reads below.uses.items new.entries →
      HasGrown rules s i old new
  grown_kept absent put = record {
    gains = subst (λ (f : Found). Gains rules s i old.entries new.entries old.found f old.work new.work) (sym found)
        (gains_put rules s i old.entries new.entries old.found v below.reads below.uses.items is.held.known
        is.own is.come (Some v) (inl (refl, is.lazy)) absent old.work new.work counts put);
    demanded = demanded_put (contents s) (meaning rules) old.entries new.entries i (Some v) below.reads
        below.uses.items put;
    traces = put_traced rules s idle i old.entries new.entries old.found v below.reads below.uses.items o old.memories
        new.memories is.held.known is.own is.come is.lazy
        (λ e. subst (λ (xs : List (Instance ℕ)). AreLazy rules xs) same (ordered e))
        (stays_put old.entries new.entries i (Some v) below.reads below.uses.items absent put) last puts
        is.held.justified;
    makes = makes;
  }

  -- where memory was wanting
  pub grown_unkept : KeepsAll old.entries new.entries → HasGrown rules s i old new
  grown_unkept all = record {
    gains = subst (λ (f : Found). Gains rules s i old.entries new.entries old.found f old.work new.work) (sym found)
        (gains_same rules s i old.entries new.entries old.found old.work new.work all is.held.known counts);
    demanded = demanded_same (contents s) (meaning rules) i old.entries new.entries all;
    traces = put_traced rules s idle i old.entries new.entries old.found v below.reads below.uses.items o old.memories
        new.memories is.held.known is.own is.come is.lazy
        (λ e. subst (λ (xs : List (Instance ℕ)). AreLazy rules xs) same (ordered e)) (λ j some. all j) last puts
        is.held.justified;
    makes = makes;
  }

-- one that isn't lazy was evaluated, and has an entry
pub grown_entered : (rules : Rules) (s : Shown) {i : Instance ℕ} {v : Value ℕ} {below : Level}
    {before after : Entries} {m n : Memories} {f : Found} {w k : ℕ} → w < 2 ^ 64 →
    IsEvaluatedFor rules (contents s) (held before m f w k) false i v below → before i ≡ None → StayTraced m n →
    Makes before after m n k k → Puts before i None below.reads below.uses.items after →
    HasGrown rules s i (held before m f w k) (held after n f w k)
grown_entered rules s {i} {v} {below} {before} {after} {m} {n} {f} {w} {k} few is absent stay makes put = record {
  gains = gains_put rules s i before after f v below.reads below.uses.items is.held.known is.own is.come None
      (inr (refl, is.lazy)) absent w w
      (counts_shared_so rules s before after i below.reads below.uses.items w few absent put) put;
  demanded = demanded_put (contents s) (meaning rules) before after i None below.reads below.uses.items put;
  traces = traced_on rules s i m n stay is.held.justified;
  makes = makes;
}

-- up to what was remembered and counted so before
pub grown_as : {rules : Rules} {s : Shown} {i : Instance ℕ} {old : Held} {entries : Entries} {m : Memories}
    {f g : Found} {w x k l : ℕ} → g ≡ f → x ≡ w → l ≡ k →
    HasGrown rules s i old (held entries m f w k) → HasGrown rules s i old (held entries m g x l)
grown_as {rules} {s} {i} {old} {entries} {m} {f} {g} {w} {x} {k} {l} e d c a = record {
  gains = gains_as rules s i old.entries entries old.found f g old.work w x e d a.gains;
  demanded = a.demanded;
  traces = a.traces;
  makes = makes_as c a.makes;
}

-- where more is known its evaluation goes the same way
pub evaluated_more : {rules : Rules} {s : Shown} {j : Instance ℕ} {old new : Held} → HasGrown rules s j old new →
    IsHeld rules (contents s) old → (i : Instance ℕ) (v : Value ℕ) (ls : List (Location ℕ)) (us : List (Instance ℕ)) →
    IsEvaluated rules (contents s) (values_in old) i v ls us → IsEvaluated rules (contents s) (values_in new) i v ls us
evaluated_more {rules} {s} {j} {old} {new} a is i v ls us come = (
  come.0,
  evaluates_more (contents s) (equations rules) (values_in old) (is_inner rules) (values_in new)
      (known_on rules (contents s) old.entries old.found is.known new.entries new.found a.gains.known a.gains.worthy.stays
      a.gains.still) come.0 (equations rules i) v ls us come.1,
)

-- the instance has the value to which it was evaluated
pub evaluated_has : (rules : Rules) (s : Shown) {h : Held} {lazily : Bool} {i : Instance ℕ} {v : Value ℕ}
    {below : Level} → IsEvaluatedFor rules (contents s) h lazily i v below → HasValue (contents s) (meaning rules) i v
evaluated_has rules s {h} {lazily} {i} {v} {below} is =
    valued rules s i h.entries h.entries h.found v below.reads below.uses.items is.held.known is.own is.come

-- its value is remembered, and known then
module _ {rules : Rules} {s : Shown} {i : Instance ℕ} {old : Held} {entries : Entries} {m : Memories}
    {f g : Found} {w k : ℕ} (a : HasGrown rules s i old (held entries m f w k)) (c : ValueCode)
    (put : g ≡ insert_entry same_instance f i c) (has : HasValue (contents s) (meaning rules) i (value_view c))
    (some : IsSome (entries i)) (lazy : is_lazy rules i.attribute ≡ false) where
  pub grown_more : HasGrown rules s i old (held entries m g w k)
  grown_more = record {
    gains = gains_more rules s i old.entries entries old.found f g old.work w c a.gains put has some lazy;
    demanded = a.demanded;
    traces = a.traces;
    makes = a.makes;
  }

  pub grown_known : known_by entries g i ≡ Some (value_view c)
  grown_known = more_known rules s i old.entries entries old.found f g old.work w c a.gains put has some lazy

-- what was put for an instance, locations and uses was put for those that they are
pub put_alike : (old new : Entries) (o : Option (Value ℕ)) {i j : Instance ℕ}
    {ls ms : List (Location ℕ)} {us vs : List (Instance ℕ)} → j ≡ i → ls ≡ ms → us ≡ vs →
    Puts old j o ls us new → Puts old i o ms vs new
put_alike old new o {i} {j} {ls} {ms} {us} {vs} is at took put =
    subst (λ (xs : List (Instance ℕ)). Puts old i o ms xs new) took
    (subst (λ (xs : List (Location ℕ)). Puts old i o xs us new) at
    (subst (λ (x : Instance ℕ). Puts old x o ls us new) is put))

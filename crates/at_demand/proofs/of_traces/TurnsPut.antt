-- What turns put, one behind the other.
use Rattle.std.proofs.Common.{◌≡◌, ◌≤◌, ◌<◌, ◌+◌, ◌-◌, ◌^◌, ◌⊎◌, min, inl, inr, ℕ, Bool, true, false, List, [], ◌++◌, length, Option, Some, refl, arith, subst, sym, ◌∙◌, ap, true≢false}
use Rattle.std.specs.Prelude.{nat_lt}
use Rattle.std.proofs.lemmas.Bool.{ltb-false, ltb-true}
use Rattle.at_model.specs.Run.{Instance, Location, Value}
use Rattle.at_body.specs.Same.{same_instance}
use Rattle.at_cache.specs.Kept.{Entries}
use Rattle.at_cache.specs.Traced.{Memories, PutsTrace, SparesOthers, StayTraced, Trace}
use Rattle.at_cache.specs.declared.keeper.Order.TheVariants as order
use Rattle.at_demand.specs.InTurns.{CountsKept, PutsInTurns, WasPut, another, earlier, itself, nothing, one_more}
use Rattle.at_evaluate.specs.Sparing.{Counts}
use Rattle.at_demand.specs.Again.{HasKeptAgain}
use Rattle.at_demand.specs.State.{State}
use Rattle.at_demand.specs.Went.{EditMade, IsAsked, IsTurned, Went, asked, begun, edited, turned}
use Rattle.at_evaluate.proofs.Sameness.{same_refl, same_true}
use Rattle.at_evaluate.proofs.of_traces.Justified.{stay_any, stay_same, stay_then}
use Rattle.at_evaluate.proofs.of_traces.Making.{makes_as, makes_none, makes_settled}
use Rattle.at_evaluate.proofs.Counting.{counts_none}
use Rattle.at_evaluate.proofs.of_traces.Settled.{settled_counts}

pub puts_same : (m : Memories) → PutsInTurns m m
puts_same m = nothing

pub puts_then : (first next last : Memories) → PutsInTurns first next → PutsInTurns next last → PutsInTurns first last
puts_then first next _ p nothing = p
puts_then first next _ p (one_more mid last i after q spares stay) = one_more mid last i after (puts_then first next mid p q) spares stay

-- one was put
pub puts_one : (i : Instance ℕ) (v : Option (Value ℕ)) (reads : List (Location ℕ)) (uses : List (Instance ℕ)) (after : Entries)
    (old new : Memories) → PutsTrace i v reads uses order.Any old new → SparesOthers i after old new → PutsInTurns old new
puts_one i v reads uses after old new puts spares = one_more old new i after nothing spares (stay_any i v reads uses old new puts)

-- nothing is traced by that
pub puts_stay : (old new : Memories) → PutsInTurns old new → StayTraced old new
puts_stay old _ nothing = stay_same old
puts_stay old _ (one_more mid last i after q spares stay) = stay_then old mid last (puts_stay old mid q) stay

-- what could be kept again still can, or one of them was put for which it can't
pub spared_in_turns : (i : Instance ℕ) (t : Trace) (old new : Memories) (p : PutsInTurns old new) → old.traced i ≡ Some t
    → (new.traced i ≡ Some t) ⊎ WasPut i t old new p
spared_in_turns i t old _ nothing there = inl there
spared_in_turns i t old _ (one_more mid new j after p spares stay) there = by (spared_in_turns i t old mid p there)
  where
    step : (b : Bool) → same_instance j i ≡ b → mid.traced i ≡ Some t
        → (new.traced i ≡ Some t) ⊎ WasPut i t old new (one_more mid new j after p spares stay)
    step true is still = inr (subst (λ x. WasPut x t old new (one_more mid new j after p spares stay)) (same_true j i is)
        (itself mid new after p spares stay))
    step false off still = elim (spares.spares i t (λ same. true≢false (sym (same_refl j) ∙ ap (same_instance j) same ∙ off)) still) [
      | inl left ↦ inl left
      | inr other ↦ inr (another mid new j after p spares stay other)
    ]

    by : (mid.traced i ≡ Some t) ⊎ WasPut i t old mid p → (new.traced i ≡ Some t) ⊎ WasPut i t old new (one_more mid new j after p spares stay)
    by (inl still) = step (same_instance j i) refl still
    by (inr was) = inr (earlier mid new j after p spares stay was)

-- how the number of those that were made grows with the work
pub counted_kept : (e f : Entries) (w x k l : ℕ) → Counts e f w x
    → ((n : ℕ) → x ≡ min (w + n) (2 ^ 64 - 1) → (l ≡ k + n) ⊎ (2 ^ 64 - 1 ≤ l)) → CountsKept e f k l
counted_kept e f w x k l counts grows = record { made = counts.0; gained = counts.1; count = grows (length counts.0) counts.2 }

summed : (k n s l most : ℕ) → s ≡ k + n → l ≡ min s most → (b : Bool) → nat_lt s most ≡ b → (l ≡ k + n) ⊎ (most ≤ l)
summed k n s l most sum is true h = let less = ltb-true s most h in inl (omega (arith, sum, less, is))
summed k n s l most sum is false h = let no = ltb-false s most h in inr (omega (arith, sum, no, is))

grown : (w n x most : ℕ) → x ≡ min (w + n) most → (x ≡ most → ⊥) → (b : Bool) → nat_lt (w + n) most ≡ b → x ≡ w + n
grown w n x most is other true h = let less = ltb-true (w + n) most h in omega (arith, less, is)
grown w n x most is other false h = let no = ltb-false (w + n) most h in absurd (other (omega (arith, no, is)))

-- by the difference, where the work isn't at the greatest number
pub since_then : (k w x l most : ℕ) → (x ≡ most → ⊥) → (d : ℕ) → d ≡ x - w → l ≡ min (k + d) most
    → (n : ℕ) → x ≡ min (w + n) most → (l ≡ k + n) ⊎ (most ≤ l)
since_then k w x l most other d less is n more =
    let all = grown w n x most more other (nat_lt (w + n) most) refl in
    summed k n (k + d) l most (omega (arith, all, less)) is (nat_lt (k + d) most) refl

-- steps behind steps
pub steps_then : (old mid : State) (es : List EditMade) → Went old es mid → (new : State) (fs : List EditMade) → Went mid fs new
    → Went old (fs ++ es) new
steps_then old mid es w _ _ begun = w
steps_then old mid es w _ _ (asked n o fs v h) = asked n o (fs ++ es) (steps_then old mid es w n fs v) h
steps_then old mid es w _ _ (turned n o fs v h) = turned n o (fs ++ es) (steps_then old mid es w n fs v) h
steps_then old mid es w _ _ (edited n o fs e v h) = edited n o (fs ++ es) e (steps_then old mid es w n fs v) h

pub went_then : (old mid new : State) → Went old [] mid → Went mid [] new → Went old [] new
went_then old mid new w v = steps_then old mid [] w new [] v

-- nothing was made or kept
pub asked_none : (s : State) → s.work < 2 ^ 64 → IsAsked s s
asked_none s few = record { makes = makes_none s.entries s.memories s.made; counts = counts_none s.entries s.work few }

pub went_made : (old new : State) → IsAsked old new → Went old [] new
went_made old new h = asked old new [] begun h

-- what was kept again makes nothing
pub went_again : (old new : State) (q : Instance ℕ) → old.work < 2 ^ 64
    → HasKeptAgain old.memories new.memories old.entries new.entries old.work new.work q → new.made ≡ old.made → Went old [] new
went_again old new q few again same = went_made old new (record {
  makes = makes_as same (makes_settled q again.count old.entries new.entries old.memories new.memories old.made again.settled again.alike);
  counts = settled_counts old.memories q again.count old.entries new.entries old.work new.work again.settled few again.counts;
})

-- what was kept again, and then a turn
pub went_on : (first old mid new : State) (q : Instance ℕ) → Went first [] old → old.work < 2 ^ 64
    → HasKeptAgain old.memories mid.memories old.entries mid.entries old.work mid.work q → mid.made ≡ old.made → IsTurned mid new
    → Went first [] new
went_on first old mid new q w few again same turn =
    turned mid new [] (went_then first old mid w (went_again old mid q few again same)) turn

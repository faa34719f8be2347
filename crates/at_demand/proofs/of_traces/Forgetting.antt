-- What an edit forgets, once no more is in memory than a bound allows.
use Rattle.std.specs.Prelude.{IfSome}
use Rattle.std.proofs.Common.{◌≡◌, ◌≤◌, ◌⊎◌, ℕ, Bool, true, false, None, Option, Some, ◌||◌, arith, inl, inr, refl, sym, ◌∙◌, subst}
use Rattle.std.proofs.lemmas.Bool.{ltb-false}
use Rattle.at_model.specs.Run.{Instance, Location}
use Rattle.at_cache.specs.Kept.{Entries, LeavesKept, LeavesUntouched, LosesTouched}
use Rattle.at_cache.specs.Traced.{FlushesTraces, IsStill, Memories, SparesAtEdit, StayTraced, Trace}
use Rattle.at_demand.specs.Answered.{Forgets}
use Rattle.at_demand.specs.State.{is_over}

-- where a bound allows as much as there is
pub within : (m : Option ℕ) (most count : ℕ) → m ≡ Some most → is_over m count ≡ false → count ≤ most
within m most count is off = ltb-false most count (subst (λ z. is_over z count ≡ false) is off)

still_on : (m n o : Memories) (i : Instance ℕ) (t : Trace) → IsStill n o i t → IsStill m n i t → IsStill m o i t
still_on m n o i t b a = record {
  traced = a.traced;
  value = b.value ∙ a.value;
  uses = λ u h. b.uses u h ∙ a.uses u h;
}

-- the entries and memories go from those that were there to those that are left by the bound, and from them to the new ones
module _ (says : Location ℕ → Bool → Type 0) (old mid new : Entries) (m n o : Memories)
    (kept : LeavesKept old mid) (stay : StayTraced m n) (leaves : LeavesUntouched says mid new)
    (loses : LosesTouched says mid new) (traces : FlushesTraces says n o) (spares : SparesAtEdit says n.crowded n o) where
  -- where more was in memory, a trace is there still, or gone
  spares_over : SparesAtEdit says true m o
  spares_over i t was = by (o.traced i) refl
    where
      by : (x : Option Trace) → o.traced i ≡ x → (o.traced i ≡ Some t)
          ⊎ (((l : Location ℕ) × (t.reads l ≡ true) × says l true) ⊎ ((true ≡ true) × (o.traced i ≡ None)))
      by None is = inr (inr (refl, is))
      by (Some u) is =
          let (still, free) = traces i u is in
          let first = stay i u still.traced in
          inl (is ∙ sym first.traced ∙ was)

  -- where no more was, nothing changes before
  spares_within : (over : Bool) → (over ≡ false → n ≡ m) → SparesAtEdit says (over || m.crowded) m o
  spares_within true same = spares_over
  spares_within false same = subst (λ z. SparesAtEdit says z.crowded z o) (same refl) spares

  pub forgets : (most : Option ℕ) (w k : ℕ) → (is_over most m.count ≡ false → mid ≡ old) → (is_over most m.count ≡ false → n ≡ m)
      → Forgets says most (record { entries = old; memories = m; work = w; made = k }) (record { entries = new; memories = o; work = w; made = k })
  forgets most w k all same = record {
    leaves = λ i e is. let (there, free) = leaves i e is in (kept i e there, free);
    loses = λ off. subst (λ z. LosesTouched says z new) (all off) loses;
    traces = λ i t is. let (still, free) = traces i t is in (still_on m n o i t still (stay i t still.traced), free);
    spares = spares_within (is_over most m.count) same;
    work = refl;
    made = refl;
  }

-- what no more was in memory than a bound allows stays so where no more is
pub bounded : (m : Option ℕ) (mid new : ℕ) → new ≤ mid → IfSome m (λ b. mid ≤ b) → IfSome m (λ b. new ≤ b)
bounded None mid new fewer few = few
bounded (Some b) mid new fewer few = omega (arith, fewer, few)

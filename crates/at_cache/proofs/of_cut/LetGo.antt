-- What isn't kept leaves memory where much more is there than is kept, and then an edit takes what it touches.
use Rattle.at_cache.proofs.Common.{◌≡◌, ◌⊎◌, inl, inr, ℕ, Bool, true, false, Option, None, Some, refl, sym, subst, ◌∙◌, Instance, Location, Entries, KeepsAll, LeavesUntouched, LosesTouched, FlushesTraces, Memories, SparesAtEdit, StayTraced, Trace}

module _ (says : Location ℕ → Bool → Type 0) where
  pub leaves_then : {a b c : Entries} → KeepsAll a b → LeavesUntouched says b c → LeavesUntouched says a c
  leaves_then keeps leaves i k h = let (was, untouched) = leaves i k h in (sym (keeps i) ∙ was, untouched)

  pub loses_then : {a b c : Entries} → KeepsAll a b → LosesTouched says b c → LosesTouched says a c
  loses_then keeps loses i k h = loses i k (keeps i ∙ h)

  -- where nothing was let go
  spares_still : (a b c : Memories) → b ≡ a → SparesAtEdit says false b c → SparesAtEdit says false a c
  spares_still a b c same = subst (λ (m : Memories). SparesAtEdit says false m c) same

  -- where something was, a trace is there still, or isn't there at all
  is_there_or_gone : (a b c : Memories) → StayTraced a b → FlushesTraces says b c → (i : Instance ℕ) (t : Trace) → a.traced i ≡ Some t
      → (o : Option Trace) → c.traced i ≡ o → (c.traced i ≡ Some t) ⊎ (c.traced i ≡ None)
  is_there_or_gone a b c stay flushes i t was None gone = inr gone
  is_there_or_gone a b c stay flushes i t was (Some u) there =
      let (still, untouched) = flushes i u there in inl (there ∙ sym (stay i u still.traced).traced ∙ was)

  pub spares_then : (crowded : Bool) (a b c : Memories) → StayTraced a b → (crowded ≡ false → b ≡ a) → FlushesTraces says b c
      → SparesAtEdit says false b c → SparesAtEdit says crowded a c
  spares_then false a b c stay same flushes spares i t was = spares_still a b c (same refl) spares i t was
  spares_then true a b c stay same flushes spares i t was = elim (is_there_or_gone a b c stay flushes i t was (c.traced i) refl) [
    | inl there ↦ inl there
    | inr gone ↦ inr (inr (refl, gone))
  ]

-- What is kept of instances, and what is kept in slots, where each is of an instance.
use Rattle.at_cache.proofs.Common.{◌≡◌, inl, inr, ℕ, Bool, true, Option, None, Some, refl, sym, ap, ◌∙◌, none-some, Instance, Location, same_instance, Entries, Kept, KeepsAll, LeavesUntouched, LosesTouched}
use Rattle.at_cache.proofs.Index.{LeavesSlots, LosesSlots, Standing}

-- what is kept of an instance is in a slot, and what is in a slot is kept of its instance
pub record AreShown (entries : Entries) (slots : ℕ → Option Standing) : Type 0 where
  pub shows : (i : Instance ℕ) (k : Kept) → entries i ≡ Some k → (s : ℕ) × (x : Standing) × (slots s ≡ Some x) × (x.kept ≡ k) × (same_instance i x.instance ≡ true)
  pub finds : (i : Instance ℕ) (s : ℕ) (x : Standing) → slots s ≡ Some x → same_instance i x.instance ≡ true → entries i ≡ Some x.kept

module _ {old new : Entries} {before after : ℕ → Option Standing} (o : AreShown old before) (n : AreShown new after) where
  -- what is the same in each slot is the same of each instance
  pub same_of : ((s : ℕ) → after s ≡ before s) → KeepsAll old new
  same_of same i = by (old i) refl (new i) refl
    where
      by : (a : Option Kept) → old i ≡ a → (b : Option Kept) → new i ≡ b → new i ≡ old i
      by (Some k) was b is = let (s, x, at_s, kept, alike) = o.shows i k was in n.finds i s x (same s ∙ at_s) alike ∙ ap Some kept ∙ sym was
      by None was None is = is ∙ sym was
      by None was (Some k) is = let (s, x, at_s, kept, alike) = n.shows i k is in absurd (none-some x.kept (sym was ∙ o.finds i s x (sym (same s) ∙ at_s) alike))

  module _ (says : Location ℕ → Bool → Type 0) where
    pub leaves_of : LeavesSlots says before after → LeavesUntouched says old new
    leaves_of leaves i k h =
        let (s, x, at_s, kept, alike) = n.shows i k h in
        let (was, untouched) = leaves s x at_s in
        (o.finds i s x was alike ∙ ap Some kept, λ l is. untouched l (ap (λ (k : Kept). k.covers l) kept ∙ is))

    pub loses_of : LosesSlots says before after → LosesTouched says old new
    loses_of loses i k h =
        let (s, x, at_s, kept, alike) = o.shows i k h in
        elim (loses s x at_s) [
          | inl stays ↦ inl (n.finds i s x stays alike ∙ ap Some kept)
          | inr (l, is, said) ↦ inr (l, ap (λ (k : Kept). k.covers l) (sym kept) ∙ is, said)
        ]

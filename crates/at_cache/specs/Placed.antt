-- Entries in whatever order, and where each slot's entry stands among them.
use Rattle.std.specs.Prelude.{◌≡◌, ℕ, List, Bool, true, false, Option, None, Some, nat_eq, option_map, if◌then◌else◌, slice_get}
use Rattle.at_model.specs.Run.{Instance}
use Rattle.at_body.specs.Same.{same_instance}
use Rattle.at_cache.specs.declared.entry.Entry.{Entry}

-- what is in a slot
abbrev pub at : List (Instance ℕ × Entry) → (ℕ → Option ℕ) → ℕ → Option (Instance ℕ × Entry)
at es slots k = elim (slots k) [ None ↦ None | Some p ↦ slice_get es p ]

-- whether the entry at the place has that slot
abbrev pub is_at : List (Instance ℕ × Entry) → ℕ → ℕ → Bool
is_at es p k = elim (slice_get es p) [ None ↦ false | Some e ↦ nat_eq e.1.slot k ]

-- Each entry is where its slot says, each slot that is taken says where its entry is, and no two entries are of one instance.
pub record IsPlaced (es : List (Instance ℕ × Entry)) (slots : ℕ → Option ℕ) : Type 0 where
  pub to : (p : ℕ) (e : Instance ℕ × Entry) → slice_get es p ≡ Some e → slots e.1.slot ≡ Some p
  pub from : (k p : ℕ) → slots k ≡ Some p → is_at es p k ≡ true
  pub apart : (p q : ℕ) (e f : Instance ℕ × Entry) → slice_get es p ≡ Some e → slice_get es q ≡ Some f → same_instance e.0 f.0 ≡ true → p ≡ q

-- the slot of what stands at the place, if anything does, says that place
abbrev pub IsMoved : Option ℕ → ℕ → (old new : ℕ → Option ℕ) → Type 0
IsMoved None place old new = (k : ℕ) → new k ≡ old k
IsMoved (Some slot) place old new = (k : ℕ) → new k ≡ (if nat_eq k slot then option_map (λ q. place) (old k) else old k)

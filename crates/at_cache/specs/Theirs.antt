-- Whose the entries of slots are.
use Rattle.std.specs.Prelude.{◌≡◌, ℕ, List, IsSome, Some, Contains}
use Rattle.std.specs.Map.{lookup}
use Rattle.at_model.specs.Run.{Instance}
use Rattle.at_body.specs.Same.{same_instance}
use Rattle.at_cache.specs.declared.entry.Entry.{Entry}
use Rattle.at_cache.specs.declared.table.Table.{Table}
use Rattle.at_cache.specs.Info.{memory_of}
use Rattle.at_cache.specs.Standings.{instances_in}

-- where all these instances have entries, those in the slots are theirs, in order
abbrev pub AreTheirs : Table → List (Instance ℕ) → (slots : List ℕ) → Type 0
AreTheirs t uses slots = ((u : Instance ℕ) → Contains uses u → IsSome (lookup (same_instance u) t.entries.entries))
    → instances_in (memory_of t) slots ≡ uses

-- the instance has an entry, and that is in the slot
pub record HasSlot (t : Table) (i : Instance ℕ) (slot : ℕ) : Type 0 where
  pub entry : Entry
  pub found : lookup (same_instance i) t.entries.entries ≡ Some entry
  pub there : entry.slot ≡ slot

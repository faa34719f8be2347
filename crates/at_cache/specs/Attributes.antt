-- Of which attributes an entry ever came.
use Rattle.std.specs.Prelude.{◌≡◌, ℕ, List, Bool, false, is_some, get_or}
use Rattle.std.specs.Map.{lookup}
use Rattle.at_model.specs.Run.{Instance}
use Rattle.at_body.specs.Same.{same_instance}
use Rattle.at_cache.specs.declared.entry.Entry.{Entry}

-- whether one of that attribute did
abbrev pub has_come : List Bool → (attribute : ℕ) → Bool
has_come attributes a = get_or attributes a false

-- of an attribute of which none came no instance has an entry
abbrev pub HaveCome : List (Instance ℕ × Entry) → List Bool → Type 0
HaveCome es attributes = (i : Instance ℕ) → has_come attributes i.attribute ≡ false → is_some (lookup (same_instance i) es) ≡ false

-- The first attribute of each class and name among attributes that are noted in order.
use Rattle.std.specs.Prelude.{◌≡◌, ℕ, Bool, false, List, [], ◌∷◌, ◌++◌, length, position, Option, None, Some}
use Rattle.std.specs.Map.{lookup}
use Rattle.at_rules.specs.declared.first_named.FirstNamed.{FirstNamed}
use Rattle.at_rules.specs.Upward.{declares}

-- an attribute has a class and the number of a name, or is passed over; it has that name and one of the classes
abbrev pub is_named : ℕ → List ℕ → Option (ℕ × ℕ) → Bool
is_named n cs None = false
is_named n cs (Some k) = declares n cs k

-- the first of the attributes that has that name and one of the classes
abbrev pub first_named : List (Option (ℕ × ℕ)) → ℕ → List ℕ → Option ℕ
first_named ks n cs = position (is_named n cs) ks

-- whatever the name and the classes, what stands first by them is the first of the attributes that has them
abbrev pub StandFirst : List (Option (ℕ × ℕ)) → List ((ℕ × ℕ) × ℕ) → Type 0
StandFirst ks es = (n : ℕ) (cs : List ℕ) → lookup (declares n cs) es ≡ first_named ks n cs

-- these attributes are noted
abbrev pub AreNoted : List (Option (ℕ × ℕ)) → FirstNamed → Type 0
AreNoted ks m = StandFirst ks m.first.entries

-- behind those that are noted, as many as its number, the attribute of that class and name is
abbrev pub NotesOne : (class name attribute : ℕ) → FirstNamed → FirstNamed → Type 0
NotesOne c n a old new = (ks : List (Option (ℕ × ℕ))) → a ≡ length ks → AreNoted ks old → AreNoted (ks ++ Some (c, n) ∷ []) new

-- the same are noted
abbrev pub NotesNone : FirstNamed → FirstNamed → Type 0
NotesNone old new = (ks : List (Option (ℕ × ℕ))) → AreNoted ks old → AreNoted ks new

-- it is the first of the attributes that has that name and one of the classes
abbrev pub IsFirst : FirstNamed → ℕ → List ℕ → Option ℕ → Type 0
IsFirst m n cs found = (ks : List (Option (ℕ × ℕ))) → AreNoted ks m → found ≡ first_named ks n cs

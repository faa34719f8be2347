-- Where the attributes of a name begin, among those that are the first of their class and name.
use Rattle.std.specs.Prelude.{◌≡◌, ◌++◌, ℕ, ◌≤◌, Bool, false, List, [], ◌∷◌, length, take, Option, None, Some}
use Rattle.std.specs.Prelude.{cond, is_some, nat_eq}
use Rattle.std.specs.List.{list_any}
use Rattle.std.specs.Map.{lookup}

-- attributes by their classes and names
abbrev pub Keyed : Type 0
Keyed = List ((ℕ × ℕ) × ℕ)

abbrev pub has_name : ℕ → (ℕ × ℕ) × ℕ → Bool
has_name n e = nat_eq n e.0.1

abbrev pub position_of : List (ℕ × ℕ) → ℕ → Option ℕ
position_of ps n = lookup (nat_eq n) ps

-- the position of a name is kept, if none is kept of it
abbrev pub begun : List (ℕ × ℕ) → ℕ → ℕ → List (ℕ × ℕ)
begun ps n p = cond (is_some (position_of ps n)) ps (ps ++ (n, p) ∷ [])

-- what stands in front of the position that is kept of a name has another name; so has all where none is kept
pub record IsBegun (ps : List (ℕ × ℕ)) (es : Keyed) : Type 0 where
  pub kept : (n p : ℕ) → position_of ps n ≡ Some p → (p ≤ length es) × (list_any (has_name n) (take p es) ≡ false)
  pub none : (n : ℕ) → position_of ps n ≡ None → list_any (has_name n) es ≡ false

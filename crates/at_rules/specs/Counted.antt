-- Names of attributes that are overloaded, which end in a slash and a count.
use Rattle.std.specs.Prelude.{◌≡◌, ℕ, Bool, true, nat_eq, List}
use Rattle.std.specs.List.{list_any}
use Rattle.at_model.specs.Rules.{name_by}

-- the numbers of all names with a count are among these
abbrev pub AreCounted : (texts : ℕ → List ℕ) → List ℕ → Type 0
AreCounted texts numbers = (n : ℕ) (name : List ℕ) (count : ℕ) → texts n ≡ name_by name count → list_any (nat_eq n) numbers ≡ true

-- so it is, if these are all
abbrev pub IsCounted : (texts : ℕ → List ℕ) → List ℕ → Bool → Type 0
IsCounted texts numbers are_all = are_all ≡ true → AreCounted texts numbers

-- Names and their numbers.
use Rattle.std.specs.Prelude.{◌≡◌, ℕ, List, position, Option, Some, String, string_bytes}
use Rattle.std.specs.Str.{bytes_eq}

-- the number of the name is its position
abbrev pub number_in : {Z : Type 0} → List (String Z) → List ℕ → Option ℕ
number_in names text = position (λ k. bytes_eq text (string_bytes k)) names

-- what has a number keeps it
abbrev pub Keeps : {Z : Type 0} → List (String Z) → List (String Z) → Type 0
Keeps old new = (text : List ℕ) (n : ℕ) → number_in old text ≡ Some n → number_in new text ≡ Some n

-- Characters of one sort at the front of a text.
use Rattle.std.specs.Prelude.{◌≡◌, ℕ, List, ◌∷◌, ◌++◌, Bool, true, ◌&&◌, ◌||◌, ◌==◌, nat_le, encode_utf8_all}
use Rattle.std.specs.List.{AllByRecursion}
use Rattle.at_model.specs.Names.{starts_name, continues_name}
use Rattle.at_text.specs.Front.{stands_for_itself}
use Rattle.at_text.specs.Pieces.{IsLongestRun}
use Rattle.at_tree.specs.declared.runs.Run.{Run}
use Rattle.at_tree.specs.declared.runs.Run.TheVariants as run

-- the character is a minus sign or a digit
abbrev pub is_of_number : ℕ → Bool
is_of_number c = (c == 45) || (nat_le 48 c && nat_le c 57)

-- the test that a character passes where the run goes on with it
abbrev pub takes : Run → ℕ → Bool
takes run.Name = continues_name
takes run.Plain = stands_for_itself
takes run.Number = is_of_number

-- the text is characters that pass the test, and then the rest
abbrev pub Passes : (ℕ → Bool) → List ℕ → List ℕ → Type 0
Passes passes text rest = (cs : List ℕ) × (text ≡ encode_utf8_all cs ++ rest) × AllByRecursion (λ c. passes c ≡ true) cs

-- a text is cut behind characters that pass the test
abbrev pub Cuts : (ℕ → Bool) → List ℕ → List ℕ → List ℕ → Type 0
Cuts passes text front rest = (cs : List ℕ) × (front ≡ encode_utf8_all cs) × (text ≡ encode_utf8_all cs ++ rest) × AllByRecursion (λ c. passes c ≡ true) cs

-- the text is what has the form of a name, as long as it goes on, and then the rest
abbrev pub IsWordBefore : List ℕ → List ℕ → List ℕ → Type 0
IsWordBefore text word rest =
    (c : ℕ) × (cs : List ℕ) × (word ≡ encode_utf8_all (c ∷ cs)) × (text ≡ encode_utf8_all (c ∷ cs) ++ rest)
    × (starts_name c ≡ true) × IsLongestRun continues_name cs rest

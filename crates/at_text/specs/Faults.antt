-- Where a text can't be cut any further.
use Rattle.std.specs.Prelude.{◌≡◌, ℕ, ◌+◌, ◌<◌, List, [], ◌∷◌, ◌++◌, length, Bool, true, false, ◌||◌, ◌&&◌, ◌==◌, not, ◌⊎◌, IsCharBoundary}
use Rattle.std.specs.List.{flat_map}
use Rattle.at_model.specs.Texts.{escaped}
use Rattle.at_text.specs.declared.scan.ScanFault.{ScanFault}
use Rattle.at_text.specs.declared.scan.ScanFault.TheVariants.{Memory, Bad, OpenText, OpenComment}
use Rattle.at_text.specs.Pieces.{Piece, Cut, IsPiece, spell, begins, HasNoEnd}

-- The text is cut into pieces up to this offset, and what is left there is so.
abbrev pub StandsAt : (List ℕ → Type 0) → List ℕ → ℕ → Type 0
StandsAt IsSo text at = (ps : List Piece) × (rest : List ℕ) × Cut text ps rest × (at ≡ length (flat_map spell ps)) × IsSo rest

-- a comment opens, and its end stands nowhere
abbrev pub IsOpenComment : List ℕ → Type 0
IsOpenComment rest = (body : List ℕ) × (rest ≡ 47 ∷ 42 ∷ body) × HasNoEnd body

-- what is left within a text between quotes ends before a closing quote: it is nothing, a newline stands there, or a backslash that is the last character
abbrev pub leaves_open : List ℕ → Bool
leaves_open [] = true
leaves_open (b ∷ []) = (b == 10) || (b == 92)
leaves_open (b ∷ c ∷ bs) = b == 10

-- the character makes an escape behind a backslash
abbrev pub makes_escape : ℕ → Bool
makes_escape c = (c == 34) || (c == 92) || (c == 110) || (c == 116)

-- what is left within a text between quotes begins with a raw tab, or with a backslash before a character that makes no escape
abbrev pub is_misplaced : List ℕ → Bool
is_misplaced [] = false
is_misplaced (b ∷ []) = b == 9
is_misplaced (b ∷ c ∷ bs) = (b == 9) || ((b == 92) && not (makes_escape c))

-- a text between quotes opens, and this is left behind the part of it that is in order
abbrev pub OpensText : List ℕ → List ℕ → List ℕ → Type 0
OpensText rest body tail = rest ≡ 34 ∷ (flat_map escaped body ++ tail)

abbrev pub IsOpenText : List ℕ → Type 0
IsOpenText rest = (body : List ℕ) × (tail : List ℕ) × OpensText rest body tail × (leaves_open tail ≡ true)

-- a character is left that begins no piece, and neither a quote nor a comment stands there
abbrev pub BeginsNone : List ℕ → Type 0
BeginsNone rest = (0 < length rest) × (begins (34 ∷ []) rest ≡ false) × (begins (47 ∷ 42 ∷ []) rest ≡ false)
    × ((p : Piece) (after : List ℕ) → IsPiece p after → rest ≡ spell p ++ after → ⊥)

-- a text between quotes opens, and what has no place in it stands at this offset
abbrev pub HasMisplacedAt : List ℕ → ℕ → Type 0
HasMisplacedAt text at = (ps : List Piece) × (rest : List ℕ) × Cut text ps rest × ((body : List ℕ) × (tail : List ℕ) × OpensText rest body tail
    × (is_misplaced tail ≡ true) × (at ≡ length (flat_map spell ps) + (1 + length (flat_map escaped body))))

-- the first fault of the text, and its offset; of want of memory nothing is said
abbrev pub FaultsAt : List ℕ → ScanFault → Type 0
FaultsAt text Memory = Unit {0}
FaultsAt text (Bad at) = StandsAt BeginsNone text at ⊎ HasMisplacedAt text at
FaultsAt text (OpenText at) = StandsAt IsOpenText text at
FaultsAt text (OpenComment at) = StandsAt IsOpenComment text at

-- the offset of the fault is that of a character, or the end
abbrev pub IsWithin : List ℕ → ScanFault → Type 0
IsWithin text Memory = Unit {0}
IsWithin text (Bad at) = IsCharBoundary text at
IsWithin text (OpenText at) = IsCharBoundary text at
IsWithin text (OpenComment at) = IsCharBoundary text at

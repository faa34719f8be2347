-- What stands at the front of a text, for the functions that step over it.
use Rattle.std.specs.Prelude.{◌≡◌, ℕ, ◌<◌, List, [], ◌∷◌, ◌++◌, get_or, Bool, true, false, ◌&&◌, ◌==◌, not, Option, IsUtf8, codes, nat_eq, encode_utf8_all, ◌⊎◌}
use Rattle.std.specs.List.{flat_map, list_any}
use Rattle.std.specs.Char.{is_ascii_digit}
use Rattle.at_model.specs.Names.{continues_name}
use Rattle.at_model.specs.Texts.{escaped}
use Rattle.at_text.specs.declared.token.TokenKind.{TokenKind}
use Rattle.at_text.specs.declared.scan.front.Run.{Run}
use Rattle.at_text.specs.declared.scan.front.Run.TheVariants as run
use Rattle.at_text.specs.declared.scan.front.Break.{Break}
use Rattle.at_text.specs.declared.scan.front.Break.TheVariants.{Bad, OpenText, OpenComment}
use Rattle.at_text.specs.Pieces.{Piece, IsPiece, spell, kind_of, is_sign, is_within_line, opens_comment, IsLongestRun, IsLongestSign, HasNoEnd}
use Rattle.at_text.specs.Faults.{IsOpenComment, leaves_open, is_misplaced, OpensText, IsOpenText, BeginsNone}

-- the test that a character passes where the run goes on with it
abbrev pub takes : Run → ℕ → Bool
takes run.Name = continues_name
takes run.Digits = is_ascii_digit
takes run.Line = is_within_line

-- the rest follows the longest run
abbrev pub EndsRun : (ℕ → Bool) → List ℕ → List ℕ → Type 0
EndsRun passes text rest = (cs : List ℕ) × (text ≡ encode_utf8_all cs ++ rest) × IsLongestRun passes cs rest

-- the rest follows the first end of a comment
abbrev pub EndsComment : List ℕ → List ℕ → Type 0
EndsComment text rest = (body : List ℕ) × (text ≡ body ++ 42 ∷ 47 ∷ rest) × HasNoEnd (body ++ 42 ∷ []) × IsUtf8 rest

-- the character stands for itself between quotes
abbrev pub stands_for_itself : ℕ → Bool
stands_for_itself c = not (c == 34) && not (c == 92) && not (c == 10) && not (c == 9)

-- no byte is meant at the front of what stands between quotes
abbrev pub MeansNone : List ℕ → Type 0
MeansNone text = (b : ℕ) (rest : List ℕ) → text ≡ escaped b ++ rest → ⊥

-- some bytes are meant before the rest
abbrev pub Means : List ℕ → List ℕ → List ℕ → Type 0
Means body text rest = (text ≡ flat_map escaped body ++ rest) × IsUtf8 body × IsUtf8 rest

-- the text begins with none of the first `count` of these
abbrev pub FitsNone : List (List ℕ) → ℕ → List ℕ → Type 0
FitsNone fronts count text = (k : ℕ) (rest : List ℕ) → k < count → text ≡ get_or fronts k [] ++ rest → ⊥

-- the rest follows the longest sign
abbrev pub EndsSign : List ℕ → List ℕ → Type 0
EndsSign text rest = (sign : List ℕ) × (text ≡ sign ++ rest) × IsLongestSign sign text × IsUtf8 rest

abbrev pub BeginsNoSign : List ℕ → Type 0
BeginsNoSign text = (sign rest : List ℕ) → is_sign sign ≡ true → text ≡ sign ++ rest → ⊥

-- the signs of more than one character, in the order of all signs
abbrev pub long_signs : List (List ℕ)
long_signs = codes "::=" ∷ codes "==" ∷ codes "!=" ∷ codes "<=" ∷ codes ">=" ∷ codes "&&" ∷ codes "||" ∷ []

-- a colon, an equals sign, an ampersand or a bar: what stands in the second place of one of these
abbrev pub is_second : ℕ → Bool
is_second b = list_any (nat_eq b) (codes ":=&|")

-- a character that is a sign
abbrev pub is_short_sign : ℕ → Bool
is_short_sign c = list_any (nat_eq c) (codes ":;*[]<>/.(){},=!-+%?")

-- the rest follows the first sign of more than one character that fits
abbrev pub EndsLong : List ℕ → List ℕ → Type 0
EndsLong text rest = (k : ℕ) × (k < 7) × FitsNone long_signs k text × (text ≡ get_or long_signs k [] ++ rest) × IsUtf8 rest

-- what stands between quotes goes on with neither a closing quote nor a character that is meant
abbrev pub BreaksQuoted : List ℕ → Break → Type 0
BreaksQuoted text (Bad tail) = (body : List ℕ) × (text ≡ flat_map escaped body ++ tail.now) × (is_misplaced tail.now ≡ true) × IsUtf8 tail.now
BreaksQuoted text OpenText = (body : List ℕ) × (tail : List ℕ) × (text ≡ flat_map escaped body ++ tail) × (leaves_open tail ≡ true)
BreaksQuoted text OpenComment = ⊥

-- the rest follows a piece, whose kind of token is this
abbrev pub IsFound : List ℕ → Option TokenKind → List ℕ → Type 0
IsFound text kind rest = (p : Piece) × (text ≡ spell p ++ rest) × IsPiece p rest × (kind_of p ≡ kind) × IsUtf8 rest

-- neither a comment nor a sign stands at the front
abbrev pub BreaksSign : List ℕ → Break → Type 0
BreaksSign text (Bad tail) = (tail.now ≡ text) × (opens_comment text ≡ false) × BeginsNoSign text
BreaksSign text OpenText = ⊥
BreaksSign text OpenComment = IsOpenComment text

-- no piece stands at the front
abbrev pub BreaksPiece : List ℕ → Break → Type 0
BreaksPiece text (Bad tail) = (BeginsNone text × (tail.now ≡ text))
    ⊎ ((body : List ℕ) × OpensText text body tail.now × (is_misplaced tail.now ≡ true) × IsUtf8 tail.now)
BreaksPiece text OpenText = IsOpenText text
BreaksPiece text OpenComment = IsOpenComment text

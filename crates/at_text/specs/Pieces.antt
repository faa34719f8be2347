-- What a text is made of. A text is its UTF-8 bytes; it is cut into pieces from the left, each the longest that fits there.
use Rattle.std.specs.Prelude.{◌≡◌, ℕ, ◌+◌, ◌≤◌, ◌<◌, List, [], ◌∷◌, ◌++◌, length, Bool, true, false, ◌||◌, ◌&&◌, ◌==◌, not, Option, Some, None, IsUtf8, IsCharBoundary, encode_utf8_all, chars, codes}
use Rattle.std.specs.List.{flat_map, AllByRecursion, list_any}
use Rattle.std.specs.Str.{bytes_eq, all_ascii_digits}
use Rattle.std.specs.Char.{encode_utf8, is_ascii_digit}
use Rattle.at_model.specs.Names.{starts_name, continues_name, is_word}
use Rattle.at_model.specs.Texts.{quoted}
use Rattle.at_text.specs.declared.token.TokenKind.{TokenKind}
use Rattle.at_text.specs.declared.token.TokenKind.TheVariants as kind
use Rattle.at_text.specs.declared.token.Token.{Token}
use Rattle.at_text.specs.declared.token.Lexeme.{Lexeme}

-- what stands between two places of a text where a token may begin
pub data Piece : Type 0 where
  -- a character
  Blank : (c : ℕ) → Piece
  -- `//` and the characters up to the end of the line
  LineComment : (cs : List ℕ) → Piece
  -- the bytes between `/*` and `*/`
  BlockComment : (body : List ℕ) → Piece
  -- its first character, and the others
  Name : (c : ℕ) → (cs : List ℕ) → Piece
  -- its first digit, and the others
  Number : (d : ℕ) → (ds : List ℕ) → Piece
  -- the text that is meant, with no quotes and no escapes
  Quoted : (body : List ℕ) → Piece
  -- its bytes
  Sign : (sign : List ℕ) → Piece

abbrev pub spell : Piece → List ℕ
spell (Blank c) = encode_utf8 c
spell (LineComment cs) = 47 ∷ 47 ∷ encode_utf8_all cs
spell (BlockComment body) = 47 ∷ 42 ∷ (body ++ 42 ∷ 47 ∷ [])
spell (Name c cs) = encode_utf8_all (c ∷ cs)
spell (Number d ds) = d ∷ ds
spell (Quoted body) = quoted body
spell (Sign sign) = sign

-- a space, a tab, a carriage return or a newline
abbrev pub is_blank : ℕ → Bool
is_blank c = (c == 32) || (c == 9) || (c == 13) || (c == 10)

-- a line ends at its newline
abbrev pub is_within_line : ℕ → Bool
is_within_line c = not (c == 10)

unfoldable pub signs : List (List ℕ)
signs =
    codes "::=" ∷ codes "==" ∷ codes "!=" ∷ codes "<=" ∷ codes ">=" ∷ codes "&&" ∷ codes "||"
    ∷ codes ":" ∷ codes ";" ∷ codes "*" ∷ codes "[" ∷ codes "]" ∷ codes "<" ∷ codes ">" ∷ codes "/" ∷ codes "." ∷ codes "(" ∷ codes ")"
    ∷ codes "{" ∷ codes "}" ∷ codes "," ∷ codes "=" ∷ codes "!" ∷ codes "-" ∷ codes "+" ∷ codes "%" ∷ codes "?" ∷ []

abbrev pub is_sign : List ℕ → Bool
is_sign bytes = list_any (bytes_eq bytes) signs

-- the text begins with these bytes
abbrev pub begins : List ℕ → List ℕ → Bool
begins [] text = true
begins (b ∷ bs) [] = false
begins (b ∷ bs) (c ∷ cs) = (b == c) && begins bs cs

abbrev pub opens_comment : List ℕ → Bool
opens_comment text = begins (47 ∷ 47 ∷ []) text || begins (47 ∷ 42 ∷ []) text

-- no `*/` stands anywhere in the bytes
abbrev pub HasNoEnd : List ℕ → Type 0
HasNoEnd bytes = (before after : List ℕ) → bytes ≡ before ++ 42 ∷ 47 ∷ after → ⊥

-- no character that passes the test stands at the front
abbrev pub NotBefore : (ℕ → Bool) → List ℕ → Type 0
NotBefore passes text = (c : ℕ) (after : List ℕ) → text ≡ encode_utf8 c ++ after → passes c ≡ false

-- the characters pass the test, and what follows them begins with none that does
abbrev pub IsLongestRun : (ℕ → Bool) → List ℕ → List ℕ → Type 0
IsLongestRun passes cs after = AllByRecursion (λ c. passes c ≡ true) cs × NotBefore passes after

-- a sign, the longest that the text begins with
abbrev pub IsLongestSign : List ℕ → List ℕ → Type 0
IsLongestSign sign text = (is_sign sign ≡ true) × ((other more : List ℕ) → is_sign other ≡ true → text ≡ other ++ more → length other ≤ length sign)

-- it is such a piece, and what follows it doesn't make it longer
abbrev pub IsPiece : Piece → List ℕ → Type 0
IsPiece (Blank c) after = is_blank c ≡ true
IsPiece (LineComment cs) after = IsLongestRun is_within_line cs after
-- the star of its end belongs to no earlier end
IsPiece (BlockComment body) after = HasNoEnd (body ++ 42 ∷ [])
IsPiece (Name c cs) after = (starts_name c ≡ true) × IsLongestRun continues_name cs after
IsPiece (Number d ds) after = (is_ascii_digit d ≡ true) × IsLongestRun is_ascii_digit ds after
IsPiece (Quoted body) after = IsUtf8 body
IsPiece (Sign sign) after = IsLongestSign sign (sign ++ after) × (opens_comment (sign ++ after) ≡ false)

-- the kind of token that it is, if it is one
abbrev pub kind_of : Piece → Option TokenKind
kind_of (Blank c) = None
kind_of (LineComment cs) = None
kind_of (BlockComment body) = None
kind_of (Name c cs) = Some kind.Word
kind_of (Number d ds) = Some kind.Number
kind_of (Quoted body) = Some kind.Text
kind_of (Sign sign) = Some kind.Sign

-- each is a piece before what follows it
abbrev pub AreBefore : List Piece → List ℕ → Type 0
AreBefore [] rest = Unit {0}
AreBefore (p ∷ ps) rest = IsPiece p (flat_map spell ps ++ rest) × AreBefore ps rest

-- the text is these pieces, up to the rest
pub record Cut (text : List ℕ) (ps : List Piece) (rest : List ℕ) : Type 0 where
  pub whole : text ≡ flat_map spell ps ++ rest
  pub each : AreBefore ps rest

abbrev pub token_of : Option TokenKind → ℕ → ℕ → List Token
token_of None start end = []
token_of (Some k) start end = record { kind = k; start = start; end = end } ∷ []

-- the tokens among the pieces, where the first piece begins at this offset
abbrev pub tokens_at : ℕ → List Piece → List Token
tokens_at start [] = []
tokens_at start (p ∷ ps) = token_of (kind_of p) start (start + length (spell p)) ++ tokens_at (start + length (spell p)) ps

-- the token has a byte at least, and the text may be cut before and behind it
abbrev pub IsSpan : List ℕ → Token → Type 0
IsSpan text token = (token.start < token.end) × IsCharBoundary text token.start × IsCharBoundary text token.end

-- a token with its text
pub record Spelled : Type 0 where
  pub kind : TokenKind
  pub text : List ℕ
  pub start : ℕ

abbrev pub spelled_of : Option TokenKind → List ℕ → ℕ → List Spelled
spelled_of None text start = []
spelled_of (Some k) text start = record { kind = k; text = text; start = start } ∷ []

-- the tokens among the pieces with their texts, where the first piece begins at this offset
abbrev pub spelled_at : ℕ → List Piece → List Spelled
spelled_at start [] = []
spelled_at start (p ∷ ps) = spelled_of (kind_of p) (spell p) start ++ spelled_at (start + length (spell p)) ps

-- what the program hands out for a token with its text
abbrev pub spelled : Lexeme → Spelled
spelled lexeme = record { kind = lexeme.kind; text = lexeme.text.now; start = lexeme.start }

-- a digit and digits behind it
abbrev pub is_number : List ℕ → Bool
is_number [] = false
is_number (d ∷ ds) = is_ascii_digit d && all_ascii_digits ds

-- the text of a token of this kind
abbrev pub IsOfKind : TokenKind → List ℕ → Type 0
IsOfKind kind.Word text = is_word (chars text) ≡ true
IsOfKind kind.Number text = is_number text ≡ true
IsOfKind kind.Text text = (body : List ℕ) × IsUtf8 body × (text ≡ quoted body)
IsOfKind kind.Sign text = is_sign text ≡ true

-- Tokens as a grammar sees them.
use Rattle.std.specs.Prelude.{◌≡◌, ℕ, List, [], ◌∷◌, length, map, Bool, true, false, ◌&&◌, Option, Some, None}
use Rattle.std.specs.Str.{bytes_eq}
use Rattle.at_model.specs.Names.{is_name}
use Rattle.at_text.specs.declared.token.TokenKind.{TokenKind}
use Rattle.at_text.specs.declared.token.TokenKind.TheVariants as kind
use Rattle.at_text.specs.declared.placed.Placed.{Placed}
use Rattle.at_text.specs.declared.place.Place.{Place}
use Rattle.at_text.specs.Place.{place_of}
use Rattle.at_text.specs.Pieces.{Piece, Cut, Spelled, spelled_at}

-- a token with its line and column
pub record PlacedToken : Type 0 where
  pub kind : TokenKind
  pub text : List ℕ
  pub at : Place

-- a token of a text
abbrev pub placed_in : List ℕ → Spelled → PlacedToken
placed_in text t = record { kind = t.kind; text = t.text; at = place_of text t.start }

-- what the program hands out for a token with its place
abbrev pub placed : Placed → PlacedToken
placed t = record { kind = t.kind; text = t.text.now; at = t.at }

-- the text is cut whole, and these are its tokens
abbrev pub HasTokens : List ℕ → List PlacedToken → Type 0
HasTokens text tokens = (ps : List Piece) × Cut text ps [] × (tokens ≡ map (placed_in text) (spelled_at 0 ps))

-- the place of the first token, or of the end of the text
abbrev pub next_place : List ℕ → List PlacedToken → Place
next_place text [] = place_of text (length text)
next_place text (t ∷ ts) = t.at

-- ---- symbols

-- a token as a grammar sees it, with its place if the grammar's values keep it
pub record Symbol : Type 0 where
  pub kind : TokenKind
  pub text : List ℕ
  pub at : Option Place

abbrev pub word : List ℕ → Place → Symbol
word text at = record { kind = kind.Word; text = text; at = Some at }

abbrev pub sign : List ℕ → Symbol
sign text = record { kind = kind.Sign; text = text; at = None }

-- which tokens keep their place, by kind and text
abbrev pub Keeping : Type 0
Keeping = TokenKind → List ℕ → Bool

abbrev pub kept : Bool → Place → Option Place
kept true at = Some at
kept false at = None

abbrev pub symbol : Keeping → PlacedToken → Symbol
symbol keeps t = record { kind = t.kind; text = t.text; at = kept (keeps t.kind t.text) t.at }

abbrev pub symbols : Keeping → List PlacedToken → List Symbol
symbols keeps = map (symbol keeps)

abbrev pub is_word_kind : TokenKind → Bool
is_word_kind kind.Word = true
is_word_kind kind.Number = false
is_word_kind kind.Text = false
is_word_kind kind.Sign = false

abbrev pub is_sign_kind : TokenKind → Bool
is_sign_kind kind.Word = false
is_sign_kind kind.Number = false
is_sign_kind kind.Text = false
is_sign_kind kind.Sign = true

-- words keep their place, and the others forget it
abbrev pub words_keep : Keeping
words_keep k text = is_word_kind k

-- the next symbol is this sign
abbrev pub is_sign : List ℕ → Option Symbol → Bool
is_sign text None = false
is_sign text (Some s) = is_sign_kind s.kind && bytes_eq s.text text

-- the next symbol is this word
abbrev pub is_word : List ℕ → Option Symbol → Bool
is_word text None = false
is_word text (Some s) = is_word_kind s.kind && bytes_eq s.text text

-- the next symbol is a name
abbrev pub is_name_next : Option Symbol → Bool
is_name_next None = false
is_name_next (Some s) = is_word_kind s.kind && is_name s.text

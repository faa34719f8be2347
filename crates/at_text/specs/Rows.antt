-- Rows of tokens with their places, as a reader stands before them.
use Rattle.std.specs.Prelude.{ℕ, List, [], ◌∷◌, Bool, false, ◌&&◌, map}
use Rattle.std.specs.Str.{bytes_eq}
use Rattle.at_model.specs.Names.{is_name}
use Rattle.at_text.specs.declared.place.Place.{Place}
use Rattle.at_text.specs.declared.placed.Placed.{Placed}
use Rattle.at_text.specs.declared.token.TokenKind.TheVariants as kind
use Rattle.at_text.specs.Symbols.{PlacedToken, placed, is_word_kind, is_sign_kind}

-- the tokens that are left
abbrev pub Row : Type 0
Row = List PlacedToken

-- what the program has of them
abbrev pub left : List Placed → Row
left = map placed

abbrev pub sign : List ℕ → Place → PlacedToken
sign text at = record { kind = kind.Sign; text = text; at = at }

abbrev pub word : List ℕ → Place → PlacedToken
word text at = record { kind = kind.Word; text = text; at = at }

abbrev pub is_sign : List ℕ → PlacedToken → Bool
is_sign text t = is_sign_kind t.kind && bytes_eq t.text text

abbrev pub is_word : List ℕ → PlacedToken → Bool
is_word text t = is_word_kind t.kind && bytes_eq t.text text

abbrev pub is_name_token : PlacedToken → Bool
is_name_token t = is_word_kind t.kind && is_name t.text

-- the next token is one that passes the test
abbrev pub next_is : (PlacedToken → Bool) → Row → Bool
next_is test [] = false
next_is test (t ∷ ts) = test t

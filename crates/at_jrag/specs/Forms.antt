-- Which forms of JastAdd's aspects are left out: by what may stand behind what was read of a file.
use Rattle.std.specs.Prelude.{◌≡◌, ℕ, List, [], ◌∷◌, ◌++◌, true, ◌||◌}
use lib.Chars.{codes}
use Rattle.at_text.specs.Symbols.{PlacedToken, is_word_kind}
use Rattle.at_text.specs.declared.place.Place.{Place}
use Rattle.at_jrag.specs.Syntax.{Aspect}
use Rattle.at_text.specs.Rows.{sign, word, is_sign, is_word}
use Rattle.at_jrag.specs.declared.Forms.{Forms}
use Rattle.at_jrag.specs.Grammar.{File, IsWithin, begins_other}
use Rattle.at_jrag.specs.FirstFault.{GoesOn}

-- the tokens are a file
abbrev pub IsFile : Forms → List PlacedToken → Type 0
IsFile forms tokens = (aspects : List Aspect) × File forms aspects tokens []

-- one in which no expression nests too deep
abbrev pub IsFileWithin : Forms → List PlacedToken → Type 0
IsFileWithin forms tokens = (aspects : List Aspect) × File forms aspects tokens [] × IsWithin aspects

-- some file goes on behind the front with that sign, that word
abbrev pub SignMayStand : Forms → List ℕ → List PlacedToken → Type 0
SignMayStand forms text front = (at : Place) × GoesOn (IsFile forms) front (sign text at ∷ [])

abbrev pub WordMayStand : Forms → List ℕ → List PlacedToken → Type 0
WordMayStand forms text front = (at : Place) × GoesOn (IsFile forms) front (word text at ∷ [])

-- If no file goes on behind the front with the token, a form that is left out begins with it. That an expression may end is
-- said by `||`, which may stand behind each whole one.
pub data IsLeftOut (forms : Forms) (front : List PlacedToken) (t : PlacedToken) : Type 0 where
  -- another word where an aspect may begin
  no_aspect : is_word_kind t.kind ≡ true → WordMayStand forms (codes "aspect") front → IsLeftOut forms front t
  -- another word where a declaration may begin
  no_declaration : is_word_kind t.kind ≡ true → WordMayStand forms (codes "syn") front → IsLeftOut forms front t
  -- `nta` behind `syn`, `inh` or `lazy`
  nta : (more : List PlacedToken) (before : PlacedToken) → front ≡ more ++ before ∷ []
      → is_word (codes "syn") before || (is_word (codes "inh") before || is_word (codes "lazy") before) ≡ true → is_word (codes "nta") t ≡ true
      → IsLeftOut forms front t
  -- `circular` behind the parameters of an attribute that is declared: where `;` may stand, but behind no expression
  circular : is_word (codes "circular") t ≡ true → SignMayStand forms (codes ";") front → (SignMayStand forms (codes "||") front → ⊥) → IsLeftOut forms front t
  -- another expression than `true` or `false` behind the `[` of `circular`
  start : (more : List PlacedToken) (before : PlacedToken) → front ≡ more ++ before ∷ [] → is_sign (codes "[") before ≡ true → begins_other t ≡ true
      → IsLeftOut forms front t
  -- anything but `return` behind the `{` of a body
  no_return : WordMayStand forms (codes "return") front → IsLeftOut forms front t
  -- anything but `}` behind the `;` of a `return`: where `}` may stand, but behind no expression, nor behind a declaration
  no_close : SignMayStand forms (codes "}") front → (SignMayStand forms (codes "||") front → ⊥) → (WordMayStand forms (codes "syn") front → ⊥)
      → IsLeftOut forms front t
  -- `int` behind `getChild` and `(`
  get_child : (more : List PlacedToken) (name paren : PlacedToken) → front ≡ more ++ name ∷ paren ∷ []
      → is_word (codes "getChild") name ≡ true → is_sign (codes "(") paren ≡ true → is_word (codes "int") t ≡ true
      → IsLeftOut forms front t

-- the form that begins behind the front is left out; at the end of the text none is
abbrev pub MeetsLeftOut : Forms → (front rest : List PlacedToken) → Type 0
MeetsLeftOut forms front [] = ⊥
MeetsLeftOut forms front (t ∷ ts) = IsLeftOut forms front t

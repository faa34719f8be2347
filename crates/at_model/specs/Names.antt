-- Names: what may name a class, a component, an attribute or a mark. A text is its UTF-8 bytes.
use Rattle.std.specs.Prelude.{ℕ, Bool, true, false, ◌&&◌, ◌||◌, ◌==◌, not, List, [], ◌∷◌, chars, codes, ◌≡◌}
use Rattle.std.specs.List.{list_all, list_any}
use Rattle.std.specs.Str.{IsUtf8, bytes_eq}
use Rattle.unicode_ident.specs.Ident.{is_xid_start, is_xid_continue}

-- a name begins with such a character (Unicode Standard Annex 31, and the underscore)
abbrev pub starts_name : ℕ → Bool
starts_name c = is_xid_start c || (c == 95)

-- and goes on with such characters
abbrev pub continues_name : ℕ → Bool
continues_name c = is_xid_continue c

-- the characters have the form of a name
abbrev pub is_word : List ℕ → Bool
is_word [] = false
is_word (c ∷ cs) = starts_name c && list_all continues_name cs

-- the words that have a meaning of their own in grammars and aspects
unfoldable pub reserved_words : List (List ℕ)
reserved_words =
    codes "abstract" ∷ codes "aspect" ∷ codes "syn" ∷ codes "inh" ∷ codes "eq" ∷ codes "lazy" ∷ codes "circular"
    ∷ codes "nta" ∷ codes "return" ∷ codes "true" ∷ codes "false" ∷ codes "null" ∷ codes "this" ∷ codes "instanceof"
    ∷ codes "exists" ∷ codes "first" ∷ codes "sum" ∷ codes "int" ∷ codes "boolean" ∷ codes "String" ∷ []

abbrev pub is_reserved : List ℕ → Bool
is_reserved text = list_any (λ word. bytes_eq word text) reserved_words

-- the text is a name: its characters have the form of one, and it is not reserved
abbrev pub is_name : List ℕ → Bool
is_name text = is_word (chars text) && not (is_reserved text)

-- it is, and it is well-formed UTF-8
abbrev pub IsName : List ℕ → Type 0
IsName text = (is_name text ≡ true) × IsUtf8 text

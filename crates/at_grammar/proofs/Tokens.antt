-- The tokens that are left, and what a cursor says of them.
use Rattle.std.proofs.Common.{◌≡◌, ◌<◌, ℕ, List, [], ◌∷◌, true, false, ◌&&◌, Option, Some, None, length, eqb, refl, sym, ap, ◌∙◌, arith}
use Rattle.std.specs.Prelude.{MatchOption, MatchBool, is_some}
use Rattle.std.specs.Str.{bytes_eq}
use Rattle.std.proofs.lemmas.Bool.{eqb-true, false≢true}
use Rattle.at_text.specs.declared.cursor.Cursor.{Cursor}
use Rattle.at_text.specs.declared.place.Place.{Place}
use Rattle.at_text.specs.declared.placed.Placed.{Placed}
use Rattle.at_text.specs.declared.token.TokenKind.{TokenKind}
use Rattle.at_text.specs.declared.token.TokenKind.TheVariants as kind
use Rattle.at_text.specs.Reading.{first}
use Rattle.at_text.specs.Rows as rows
use Rattle.at_text.specs.Rows.{Row, next_is}
use Rattle.at_text.specs.Symbols.{sign, is_sign, is_word, is_name_next, is_sign_kind, symbol, symbols, words_keep}
use Rattle.at_text.proofs.Openings.{bytes_same}
use Rattle.at_grammar.specs.Forms.{left}

pub nonempty_left : (ts : List Placed) → false ≡ eqb (length ts) 0 → 0 < length (left ts)
nonempty_left [] h = absurd (false≢true h)
nonempty_left (t ∷ ts) h = omega arith

empty_left : (ts : List Placed) → length ts ≡ 0 → left ts ≡ []
empty_left [] h = refl
empty_left (t ∷ ts) h = absurd (omega arith)

pub none_left : (ts : List Placed) → true ≡ eqb (length ts) 0 → left ts ≡ []
none_left ts h = empty_left ts (eqb-true (length ts) 0 (sym h))

pub same_left : (new old : Cursor) → new ≡ old → left new.rest.now ≡ left old.rest.now
same_left new old same = ap (λ (c : Cursor). left c.rest.now) same

-- ---- the next token, and the next symbol

pub next_sign : (text : List ℕ) (row : Row) → next_is (rows.is_sign text) row ≡ is_sign text (first (symbols words_keep row))
next_sign text [] = refl
next_sign text (t ∷ ts) = refl

pub next_word : (text : List ℕ) (row : Row) → next_is (rows.is_word text) row ≡ is_word text (first (symbols words_keep row))
next_word text [] = refl
next_word text (t ∷ ts) = refl

pub next_name : (row : Row) → next_is rows.is_name_token row ≡ is_name_next (first (symbols words_keep row))
next_name [] = refl
next_name (t ∷ ts) = refl

as_sign : (k : TokenKind) (spelled text : List ℕ) (at : Place) → is_sign_kind k && bytes_eq spelled text ≡ true → symbol words_keep (record { kind = k; text = spelled; at = at }) ≡ sign text
as_sign kind.Word spelled text at h = absurd (false≢true h)
as_sign kind.Number spelled text at h = absurd (false≢true h)
as_sign kind.Text spelled text at h = absurd (false≢true h)
as_sign kind.Sign spelled text at h = ap sign (bytes_same spelled text h)

pub sign_next : (text : List ℕ) (row : Row) → next_is (rows.is_sign text) row ≡ true → first (symbols words_keep row) ≡ Some (sign text)
sign_next text [] h = absurd (false≢true h)
sign_next text (t ∷ ts) h = ap (λ s. Some s) (as_sign t.kind t.text text t.at h)

-- ---- whether a sign was stepped over

pub took_sign : (text : List ℕ) (at : Option Place) (old new : Cursor)
    → MatchOption at ((new ≡ old) × (next_is (rows.is_sign text) (rows.left old.rest.now) ≡ false)) (λ p. rows.left old.rest.now ≡ rows.sign text p ∷ rows.left new.rest.now)
    → MatchBool (is_some at) (left old.rest.now ≡ sign text ∷ left new.rest.now) ((new.rest.now ≡ old.rest.now) × (is_sign text (first (left old.rest.now)) ≡ false))
took_sign text None old new h = (ap (λ (c : Cursor). c.rest.now) h.0, sym (next_sign text (rows.left old.rest.now)) ∙ h.1)
took_sign text (Some at) old new h = ap (symbols words_keep) h

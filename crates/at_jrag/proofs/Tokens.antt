-- Tokens that are left.
use Rattle.std.proofs.Common.{◌≡◌, ℕ, ◌-◌, ◌≤◌, List, Bool, false, inl, inr, [], ◌∷◌, length, take, drop, true, refl, sym, ap, subst, ◌∙◌, arith, slice_index_or}
use Rattle.std.proofs.Math.Seq.{take-length}
use Rattle.std.specs.Prelude.{◌⊎◌, Option, Some, None, MatchOption}
use Rattle.std.proofs.lemmas.Slice.Eq.{bytes_eq-Decides}
use lib.Chars.{codes}
use Rattle.at_text.specs.declared.token.TokenKind.TheVariants as kind
use Rattle.at_text.specs.declared.placed.Placed.{Placed}
use Rattle.at_text.specs.declared.token.TokenKind.{TokenKind}
use Rattle.at_text.specs.Symbols.{PlacedToken, placed}
use Rattle.at_text.specs.declared.place.Place.{Place}
use Rattle.at_text.specs.Rows.{Row, left, sign, is_sign, next_is}
use Rattle.at_jrag.specs.Grammar.{number}
use Rattle.at_jrag.specs.Read.{Reads, is_literal}
use Rattle.at_jrag.specs.declared.reader.forms.Measured.{Measured}

-- a token of this kind
pub of_kind : (t : PlacedToken) (k : TokenKind) → t.kind ≡ k → t ≡ record { kind = k; text = t.text; at = t.at }
of_kind t k e = λ i. record { kind = e i; text = t.text; at = t.at }

-- a literal that is one token
pub literal_read : (m : Measured) (t : PlacedToken) (k : TokenKind) (old rest more : Row) → old ≡ t ∷ more → rest ≡ more → t.kind ≡ k
    → ((r : Row) → Reads 8 m (record { kind = k; text = t.text; at = t.at } ∷ r) r) → is_literal (record { kind = k; text = t.text; at = t.at }) ≡ true
    → Reads 8 m old rest × (next_is is_literal old ≡ true)
literal_read m t k old rest more e s is r l =
    let front : old ≡ record { kind = k; text = t.text; at = t.at } ∷ rest = e ∙ (λ i. of_kind t k is i ∷ sym s i) in
    (subst (λ (x : Row). Reads 8 m x rest) (sym front) (r rest), ap (next_is is_literal) front ∙ l)

-- a `-` and a number are left
pub negative_left : (ts : List Placed) (other : Placed) → 2 ≤ length ts → placed (slice_index_or ts 0 other)
    ≡ sign (codes "-") (slice_index_or ts 0 other).at → (slice_index_or ts 1 other).kind ≡ kind.Number
    → left ts ≡ sign (codes "-") (slice_index_or ts 0 other).at ∷ number (slice_index_or ts 1 other).text.now (slice_index_or ts 1 other).at ∷ left (take (length ts - 2) (drop 2 ts))
negative_left [] other h m k = absurd (omega (arith, h))
negative_left (t ∷ []) other h m k = absurd (omega (arith, h))
negative_left (t ∷ u ∷ ts) other h m k =
    let n : length (t ∷ u ∷ ts) - 2 ≡ length ts = omega arith in
    let r = ap (λ l. left l) (sym (ap (λ k. take k ts) n ∙ take-length ts)) in
    λ i. m i ∷ of_kind (placed u) kind.Number k i ∷ r i

-- a sign that is taken, where something holds if it is next
pub taken_within : (taken : Option Place) (text : List ℕ) (old rest : Row) (before : Bool) (none within : Type 0) → ((before ≡ true) × within) ⊎ (before ≡ false)
    → before ≡ next_is (is_sign text) old → MatchOption taken none (λ at. old ≡ sign text at ∷ rest) → MatchOption taken none (λ at. (old ≡ sign text at ∷ rest) × within)
taken_within None text old rest before none within w b h = h
taken_within (Some at) text old rest before none within (inl w) b h = (h, w.1)
taken_within (Some at) text old rest before none within (inr f) b h =
    let e : false ≡ true = sym f ∙ b ∙ ap (next_is (is_sign text)) h ∙ (bytes_eq-Decides text text).1 refl in absurd cc

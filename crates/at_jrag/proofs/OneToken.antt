-- Two readings of one row take the same token first.
use Rattle.std.proofs.Common.{◌≡◌, ◌∷◌, Bool, true, false, sym, ap, ◌∙◌}
use Rattle.at_text.specs.Symbols.{PlacedToken}
use Rattle.at_jrag.specs.Syntax.{Word}
use Rattle.at_text.specs.Rows.{Row, word}

head_is : (t u : PlacedToken) (r s : Row) → t ∷ r ≡ u ∷ s → t ≡ u
head_is t u r s e = cc

tail_is : (t u : PlacedToken) (r s : Row) → t ∷ r ≡ u ∷ s → r ≡ s
tail_is t u r s e = cc

-- a row has one first token, and one rest
pub token_one : {t u : PlacedToken} {x y r s : Row} → x ≡ y → x ≡ t ∷ r → y ≡ u ∷ s → (t ≡ u) × (r ≡ s)
token_one {t} {u} {x} {y} {r} {s} same e f = let h : t ∷ r ≡ u ∷ s = sym e ∙ same ∙ f in (head_is t u r s h, tail_is t u r s h)

pub text_one : {t u : PlacedToken} → t ≡ u → t.text ≡ u.text
text_one e = ap (λ (t : PlacedToken). t.text) e

pub at_one : {t u : PlacedToken} → t ≡ u → t.at ≡ u.at
at_one e = ap (λ (t : PlacedToken). t.at) e

-- a row begins with no two tokens that a test tells apart
pub apart : (test : PlacedToken → Bool) {t u : PlacedToken} {x y r s : Row} → x ≡ y → x ≡ t ∷ r → y ≡ u ∷ s → test t ≡ true → test u ≡ false → ⊥
apart test same e f h k = absurd (let c : true ≡ false = sym h ∙ ap test (token_one same e f).0 ∙ k in cc)

-- a row begins with one name
pub name_one : (v w : Word) {x y r s : Row} → x ≡ y → x ≡ word v.text v.at ∷ r → y ≡ word w.text w.at ∷ s → (v ≡ w) × (r ≡ s)
name_one v w same e f =
    let h = token_one same e f in
    ((λ i. record { text = text_one h.0 i; at = at_one h.0 i }), h.1)

-- A character between quotes, by its bytes.
use Rattle.std.proofs.Common.{◌≡◌, ℕ, ◌<◌, ◌≤◌, Bool, true, false, ◌==◌, List, [], ◌∷◌, ◌++◌, length, get_or, arith, refl, sym, ◌∙◌, append-nil, length-append, lit<, suc}
use Rattle.std.specs.List.{flat_map}
use Rattle.std.specs.Prelude.{encode_utf8}
use Rattle.std.proofs.lemmas.Bool.Decides.{nat_tests}
use Rattle.std.proofs.lemmas.Str.{char_from_byte, inside_one, encode_ascii}
use Rattle.at_model.specs.Texts.{escaped}
use Rattle.at_model.proofs.of_texts.QuotedTexts.{front, Neither}

other : (a b : ℕ) → (a ≡ b → ⊥) → (a == b) ≡ false
other a b h = grind (arith, nat_tests)

-- a backslash before a character that makes no escape
pub no_escape : (y : ℕ) (behind rest : List ℕ) → behind ≡ encode_utf8 y ++ rest → (y ≡ 34 → ⊥) → (y ≡ 92 → ⊥) → (y ≡ 110 → ⊥) → (y ≡ 116 → ⊥) → front (92 ∷ behind) ≡ Neither
no_escape y [] rest is not_quote not_backslash not_n not_t = refl
no_escape y (b ∷ bs) rest is not_quote not_backslash not_n not_t =
    let same : b < 128 → y ≡ b = λ small. char_from_byte (b ∷ bs) rest y is small (omega (arith, length-append (b ∷ []) bs)) in
    let p = other b 34 (λ e. not_quote (same (omega arith) ∙ e)) in
    let q = other b 92 (λ e. not_backslash (same (omega arith) ∙ e)) in
    let r = other b 110 (λ e. not_n (same (omega arith) ∙ e)) in
    let s = other b 116 (λ e. not_t (same (omega arith) ∙ e)) in
    rw (p, q, r, s) refl

-- a newline or a tab
pub raw : (c : ℕ) (text rest : List ℕ) → text ≡ encode_utf8 c ++ rest → 9 ≤ c → c ≤ 10 → front text ≡ Neither
raw c text rest is low high = decide (c == 9) refl
  where
    decide : (b : Bool) → (c == 9) ≡ b → front text ≡ Neither
    decide true e = let nine : c ≡ 9 = grind (arith, nat_tests) in rw (is, nine, encode_ascii 9 (lit< tt)) refl
    decide false e = let ten : c ≡ 10 = grind (arith, nat_tests) in rw (is, ten, encode_ascii 10 (lit< tt)) refl

-- a byte that stands for itself
plain_byte : (b : ℕ) → (b ≡ 34 → ⊥) → (b ≡ 92 → ⊥) → (b ≡ 10 → ⊥) → (b ≡ 9 → ⊥) → escaped b ≡ b ∷ []
plain_byte b p q r s = rw (other b 34 p, other b 92 q, other b 10 r, other b 9 s) refl

plain_bytes : (bs : List ℕ) → ((k : ℕ) → k < length bs → escaped (get_or bs k 0) ≡ get_or bs k 0 ∷ []) → flat_map escaped bs ≡ bs
plain_bytes [] each = refl
plain_bytes (b ∷ bs) each = rw (each 0 (omega arith), plain_bytes bs (λ k l. each (suc k) (omega arith))) refl

-- any other character stands for itself
pub plain : (c : ℕ) → (c ≡ 34 → ⊥) → (c ≡ 92 → ⊥) → (c ≡ 10 → ⊥) → (c ≡ 9 → ⊥) → flat_map escaped (encode_utf8 c) ≡ encode_utf8 c
plain c p q r s = plain_bytes (encode_utf8 c) each
  where
    each : (k : ℕ) → k < length (encode_utf8 c) → escaped (get_or (encode_utf8 c) k 0) ≡ get_or (encode_utf8 c) k 0 ∷ []
    each k l =
        let b = get_or (encode_utf8 c) k 0 in
        let same : b < 128 → c ≡ b = inside_one c [] (encode_utf8 c) k (sym (append-nil (encode_utf8 c))) l in
        plain_byte b (λ e. p (same (omega arith) ∙ e)) (λ e. q (same (omega arith) ∙ e)) (λ e. r (same (omega arith) ∙ e)) (λ e. s (same (omega arith) ∙ e))

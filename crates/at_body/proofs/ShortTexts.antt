-- A text is short enough to be passed just where it has few enough bytes.
use Rattle.std.proofs.Common.{◌≡◌, ℕ, zero, suc, ◌≤◌, Bool, true, false, ◌&&◌, nat_le, List, [], ◌∷◌, length, get_or, refl, ap, sym, ◌∙◌, arith, w8, Fits}
use Rattle.std.proofs.lemmas.Bool.Decides.{nat_tests}
use Rattle.std.proofs.lemmas.Simd.{bytes_below}
use Rattle.at_model.specs.Bodies.{is_text_within}

byte : (b : ℕ) → b ≤ 255 → nat_le b 255 ≡ true
byte b h = grind (arith, nat_tests)

both_true : (b c : Bool) → b ≡ true → (b && c) ≡ c
both_true true c e = refl
both_true false c e = absurd cc

above_none : (n : ℕ) → nat_le (suc n) zero ≡ false
above_none n = grind (arith, nat_tests)

least : (n : ℕ) → nat_le zero n ≡ true
least n = grind (arith, nat_tests)

one_less : (m n : ℕ) → nat_le (suc m) (suc n) ≡ nat_le m n
one_less m n = grind (arith, nat_tests)

pub few_bytes : (n : ℕ) (bs : List ℕ) → ((i : ℕ) → Fits w8 (get_or bs i 0)) → nat_le (length bs) n ≡ is_text_within n bs
few_bytes zero [] h = least zero
few_bytes (suc n) [] h = least (suc n)
few_bytes zero (b ∷ bs) h = above_none (length bs)
few_bytes (suc n) (b ∷ bs) h =
    one_less (length bs) n ∙ few_bytes n bs (λ i. h (suc i))
    ∙ sym (both_true (nat_le b 255) (is_text_within n bs) (byte b (bytes_below (b ∷ []) (h 0, tt)).0))

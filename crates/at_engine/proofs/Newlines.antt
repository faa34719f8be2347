-- The place of the first newline, as a search of bytes tells it.
use Rattle.std.proofs.Common.{◌≡◌, ℕ, Bool, true, false, ◌==◌, cond, nat_lt, List, length, get_or, Option, Some, None, ap, sym, ◌∙◌, arith, refl}
use Rattle.std.specs.List.{position_or_len}
use Rattle.std.proofs.lemmas.Bool.{lt-ltb, le-ltb}
use Rattle.std.proofs.lemmas.List.Sums.{position_or_len_is}
use Rattle.memchr.specs.Find.{IsFirstByte, is_byte}
use Rattle.at_engine.specs.Loop.{newline_at}

off : (b : Bool) → (b ≡ true → ⊥) → b ≡ false
off true h = absurd (h refl)
off false h = refl

abbrev is_newline : ℕ → Bool
is_newline b = b == 10

found_at : (bytes : List ℕ) (n : ℕ) (t : Bool) → position_or_len is_newline bytes ≡ n → nat_lt n (length bytes) ≡ t → cond t (Some n) None ≡ newline_at bytes
found_at bytes n t is at = sym (ap (λ m. cond (nat_lt m (length bytes)) (Some m) None) is ∙ ap (λ b. cond b (Some n) None) at)

pub newline_found : (bytes : List ℕ) (r : Option ℕ) → IsFirstByte (is_byte 10) bytes r → r ≡ newline_at bytes
newline_found bytes None none =
    let past : position_or_len is_newline bytes ≡ length bytes = position_or_len_is is_newline bytes (length bytes) 0 (omega arith) (λ k less. off (is_newline (get_or bytes k 0)) (none k (omega arith) less)) (λ less. absurd (omega (arith, less))) in
    found_at bytes (length bytes) false past (le-ltb (length bytes) (length bytes) (omega arith))
newline_found bytes (Some k) (before, at) =
    let is : position_or_len is_newline bytes ≡ k = position_or_len_is is_newline bytes k 0 (omega (arith, before.high)) (λ i less. off (is_newline (get_or bytes i 0)) (before.before i (omega arith) less)) (λ less. at) in
    found_at bytes k true is (lt-ltb k (length bytes) before.high)

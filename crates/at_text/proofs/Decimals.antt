-- Numbers that are parsed are those that are spelled.
use Rattle.std.proofs.Common.{◌≡◌, ℕ, ℤ, ◌<◌, ◌+◌, ◌^◌, [], ◌∷◌, Bool, true, false, List, Result, Ok, pos, negsuc, sym, ◌∙◌, arith}
use lib.Signed.{mag}
use mir.Val.{to_z, of_z}
use Rattle.std.proofs.lemmas.Int.{to_z-of_z}
use Rattle.std.specs.Str.{bytes_eq}
use Rattle.std.proofs.lemmas.Slice.Eq.{bytes_eq-Decides}
use Rattle.std.specs.Prelude.{FitsSigned}
use Rattle.std.specs.Fmt.{decimal, signed_decimal}
use Rattle.std.specs.Str.Parse.{ParsesUnsigned, ParsesSigned}
use Rattle.std.proofs.lemmas.Fmt.{decimal_digit, parse-decimal, parse-signed_decimal}
use Rattle.std.specs.Int.{w32}
use Rattle.at_model.specs.Terms.{IsInt32}

pub one_digit : (word : List ℕ) (n : ℕ) → (n < 10) × (word ≡ (48 + n) ∷ []) → word ≡ decimal n
one_digit word n h = h.1 ∙ sym (decimal_digit n h.0)

pub parsed : {E : Type 0} (word : List ℕ) (r : Result ℕ E) (n : ℕ) → n < 2 ^ 64 → ParsesUnsigned 64 10 word r → word ≡ decimal n → r ≡ Ok n
parsed word r n small parses is = parse-decimal 64 n word r small small is parses

fits_32 : (n : ℤ) → IsInt32 n → FitsSigned w32 n
fits_32 (pos n) h = omega arith
fits_32 (negsuc n) h = omega arith

pub mag_small : (n : ℤ) → IsInt32 n → mag n < 2 ^ 63
mag_small (pos n) h = omega arith
mag_small (negsuc n) h = omega arith

pub parsed_int : {E : Type 0} (word : List ℕ) (r : Result ℤ E) (n : ℤ) → IsInt32 n → ParsesSigned w32 10 word r → word ≡ signed_decimal n → r ≡ Ok n
parsed_int word r n h parses is = parse-signed_decimal w32 n word r (fits_32 n h) (mag_small n h) is parses

pub same_int : (n : ℤ) → IsInt32 n → to_z w32 (of_z w32 n) ≡ n
same_int n h = to_z-of_z w32 n (fits_32 n h)

-- what `==` says of texts that are equal
pub never_unequal : (s t : List ℕ) (r : Bool) → s ≡ t → r ≡ bytes_eq s t → r ≡ false → ⊥
never_unequal s t r same is differs = let f : true ≡ false = sym ((bytes_eq-Decides s t).1 same) ∙ sym is ∙ differs in cc

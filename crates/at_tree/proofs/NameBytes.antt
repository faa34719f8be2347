-- The table of the bytes of names has what their definition says.
use Rattle.std.proofs.Common.{◌≡◌, ℕ, ◌<◌, Bool, true, false, not, get_or, refl}
use Rattle.at_text.proofs.Openings.{below}
use Rattle.at_tree.specs.PlainNames.{is_name_byte}
use Rattle.at_tree.specs.declared.names.TheConstants.{NAME_BYTES}

abbrev like : Bool → Bool → Bool
like true b = b
like false b = not b

same : (a b : Bool) → like a b ≡ true → a ≡ b
same true true e = refl
same true false e = cc
same false true e = cc
same false false e = refl

abbrev is_right : ℕ → Bool
is_right b = like (get_or NAME_BYTES b false) (is_name_byte b)

pub byte_in_table : (b : ℕ) → b < 256 → get_or NAME_BYTES b false ≡ is_name_byte b
byte_in_table b h = same (get_or NAME_BYTES b false) (is_name_byte b) (below 256 is_right refl b h)

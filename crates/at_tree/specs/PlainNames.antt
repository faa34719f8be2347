-- Names of ASCII, told by their bytes.
use Rattle.std.specs.Prelude.{ℕ, Bool, true, false, not, ◌||◌, ◌==◌, List, [], ◌∷◌}
use Rattle.std.specs.Char.{is_ascii, is_ascii_alphanumeric, is_ascii_digit}
use Rattle.std.specs.List.{position_or_len}

-- a name goes on with the byte
abbrev pub is_name_byte : ℕ → Bool
is_name_byte b = is_ascii_alphanumeric b || (b == 95)

-- how many such bytes stand at the front
abbrev pub name_len : List ℕ → ℕ
name_len text = position_or_len (λ b. not (is_name_byte b)) text

-- of such bytes, that they are some, and no digit is the first
abbrev pub begins_name : List ℕ → Bool
begins_name [] = false
begins_name (b ∷ bs) = not (is_ascii_digit b)

-- no character beyond ASCII is the first
abbrev pub begins_plain : List ℕ → Bool
begins_plain [] = true
begins_plain (b ∷ bs) = is_ascii b

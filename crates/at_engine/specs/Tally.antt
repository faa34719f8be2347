-- How many there are of each number.
use Rattle.std.specs.Prelude.{ℕ, List, cond, nat_eq, unwrap_or}
use Rattle.std.specs.Map.{lookup}

-- how many the entries say
abbrev pub counted : List (ℕ × ℕ) → ℕ → ℕ
counted es k = unwrap_or (lookup (nat_eq k) es) 0

-- one, where the numbers are the same
abbrev pub one_at : ℕ → ℕ → ℕ
one_at k number = cond (nat_eq k number) 1 0

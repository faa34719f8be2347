-- Rows of tokens.
use Rattle.std.proofs.Common.{◌≡◌, ◌≤◌, List, [], ◌∷◌, refl, arith, length, slice_index_or}
use Rattle.at_text.specs.declared.placed.Placed.{Placed}
use Rattle.at_text.specs.Symbols.{placed}
use Rattle.at_text.specs.Rows.{Row, left}

-- the first of at least one
pub next_left : (ts : List Placed) (other : Placed) → 1 ≤ length ts → (rest : Row) × (left ts ≡ placed (slice_index_or ts 0 other) ∷ rest)
next_left [] other h = absurd (omega (arith, h))
next_left (t ∷ ts) other h = (left ts, refl)

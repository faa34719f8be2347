-- Where a method begins, and the name of a getter's index.
use Rattle.std.proofs.Common.{◌≡◌, ◌<◌, ◌≤◌, length, List, [], ◌∷◌, ◌++◌, Some, false, slice_index_or, refl, arith}
use Rattle.at_text.specs.declared.placed.Placed.{Placed}
use Rattle.at_text.specs.Symbols.{placed}
use Rattle.at_text.specs.Rows.{left}
use Rattle.at_jrag.specs.Syntax.{Param}
use Rattle.at_jrag.specs.Heads.{index}
use Rattle.at_java.specs.Declarations.{heads_method, begins_method}

pub five_tokens : (ts : List Placed) (a b c d e : Placed) → 5 ≤ length ts → begins_method (left ts)
    ≡ heads_method (placed (slice_index_or ts 0 a)) (placed (slice_index_or ts 1 b)) (placed (slice_index_or ts 2 c)) (placed (slice_index_or ts 3 d))
    (placed (slice_index_or ts 4 e))
five_tokens [] a b c d e h = absurd (omega (arith, h))
five_tokens (v ∷ []) a b c d e h = absurd (omega (arith, h))
five_tokens (v ∷ w ∷ []) a b c d e h = absurd (omega (arith, h))
five_tokens (v ∷ w ∷ x ∷ []) a b c d e h = absurd (omega (arith, h))
five_tokens (v ∷ w ∷ x ∷ y ∷ []) a b c d e h = absurd (omega (arith, h))
five_tokens (v ∷ w ∷ x ∷ y ∷ z ∷ ts) a b c d e h = refl

pub too_few : (ts : List Placed) → length ts < 5 → begins_method (left ts) ≡ false
too_few [] h = refl
too_few (v ∷ []) h = refl
too_few (v ∷ w ∷ []) h = refl
too_few (v ∷ w ∷ x ∷ []) h = refl
too_few (v ∷ w ∷ x ∷ y ∷ []) h = refl
too_few (v ∷ w ∷ x ∷ y ∷ z ∷ ts) h = absurd (omega (arith, h))

pub index_last : (ps : List Param) (p : Param) → index (ps ++ p ∷ []) ≡ Some p.name
index_last [] p = refl
index_last (q ∷ []) p = refl
index_last (q ∷ r ∷ ps) p = index_last (r ∷ ps) p

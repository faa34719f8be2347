-- Rows of which a front is read as it is meant.
use Rattle.std.proofs.Common.{◌≡◌, ℕ, zero, suc, ◌+◌, ◌<◌, ◌≤◌, List, [], ◌∷◌, ◌++◌, length, take, drop, get_or, slice_set, refl, sym, ap, subst, add-one, ◌∙◌, arith}
use Rattle.at_text.specs.Symbols.{placed}
use Rattle.at_text.specs.Rows.{Row, left}
use Rattle.at_text.specs.declared.placed.Placed.{Placed}
use Rattle.at_java.specs.Aliases.{Alias, resolved_token, resolved_row}

-- so many are read as they are meant, and the others will be
abbrev pub resolved_to : List Alias → ℕ → List Placed → Row
resolved_to names n ts = left (take n ts) ++ resolved_row names (left (drop n ts))

module _ (names : List Alias) where
  after_one : (ts : List Placed) (i : ℕ) (d t u : Placed) → i < length ts → t ≡ get_or ts i d
      → placed u ≡ resolved_token names (placed t) (left (drop (suc i) ts)) → resolved_to names (suc i) (slice_set ts i u) ≡ resolved_to names i ts
  unfolding resolved_row
  after_one [] i d t u less is meant = absurd (omega (arith, less))
  after_one (x ∷ ts) zero d t u less is meant =
      ap (λ y. y ∷ resolved_row names (left ts)) (meant ∙ ap (λ y. resolved_token names (placed y) (left ts)) is)
  after_one (x ∷ ts) (suc i) d t u less is meant = ap (λ r. placed x ∷ r) (after_one ts i d t u (omega (arith, less)) is meant)

  -- one more is
  pub one_resolved : (ts next : List Placed) (i : ℕ) (d t u : Placed) → i < length ts → t ≡ get_or ts i d → next ≡ drop (i + 1) ts
      → placed u ≡ resolved_token names (placed t) (left next) → resolved_to names (i + 1) (slice_set ts i u) ≡ resolved_to names i ts
  one_resolved ts next i d t u less is behind meant =
      subst (λ (n : ℕ). resolved_to names n (slice_set ts i u) ≡ resolved_to names i ts) (sym (add-one i))
      (after_one ts i d t u less is (meant ∙ ap (λ r. resolved_token names (placed t) (left r)) (behind ∙ ap (λ n. drop n ts) (add-one i))))

-- all are
pub all_resolved : (names : List Alias) (n : ℕ) (ts : List Placed) → length ts ≤ n → left ts ≡ resolved_to names n ts
unfolding resolved_row
all_resolved names zero [] few = refl
all_resolved names (suc n) [] few = refl
all_resolved names zero (x ∷ ts) few = absurd (omega (arith, few))
all_resolved names (suc n) (x ∷ ts) few = ap (λ r. placed x ∷ r) (all_resolved names n ts (omega (arith, few)))

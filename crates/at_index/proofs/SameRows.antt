-- Rows that are compared one by one.
use Rattle.at_index.proofs.Common.{◌≡◌, ◌<◌, ◌≤◌, ◌+◌, ℕ, List, Bool, true, false, not, length, take, get_or, refl, sym, ◌∙◌, subst, take_all, and_parts, take_more_same, Row}
use Rattle.std.proofs.lemmas.Bool.{eqb-true}
use Rattle.at_index.specs.contracts.row.RowPartialEq.TheImpl.{ghosts}

pub row_same : (r s : Row) → ghosts.eq r s ≡ true → r ≡ s
row_same r s h =
    let (slot, rest) = and_parts _ _ h in
    let (step, ends) = and_parts _ _ rest in
    let (count, stamp) = and_parts _ _ ends in
    λ i. record {
      slot = eqb-true r.slot s.slot slot i;
      step = eqb-true r.step s.step step i;
      count = eqb-true r.count s.count count i;
      stamp = eqb-true r.stamp s.stamp stamp i;
    }

is_on : (b : Bool) → not b ≡ false → b ≡ true
is_on true h = refl
is_on false h = absurd cc

-- one row more is the same
pub same_more : (rows others : List Row) (k : ℕ) (d : Row) (differs : Bool) → k < length rows → length rows ≡ length others
    → differs ≡ not (ghosts.eq (get_or rows k d) (get_or others k d)) → differs ≡ false
    → take k rows ≡ take k others → take (k + 1) rows ≡ take (k + 1) others
same_more rows others k d differs less same told is front =
    take_more_same rows others k d less (subst (λ n. k < n) same less) front
    (row_same (get_or rows k d) (get_or others k d) (is_on (ghosts.eq (get_or rows k d) (get_or others k d)) (sym told ∙ is)))

-- all are
pub same_all : (rows others : List Row) (k : ℕ) → length rows ≡ length others → length rows ≤ k → take k rows ≡ take k others → rows ≡ others
same_all rows others k same over front =
    sym (take_all k rows over) ∙ front ∙ take_all k others (subst (λ n. n ≤ k) same over)

-- An edge comes in place of a row whose edges tell of no entry.
use Rattle.at_index.proofs.Common.{◌≡◌, ◌<◌, ℕ, zero, suc, List, [], ◌∷◌, Contains, Some, length, slice_get, slice_set, sym, ap, ◌∙◌, subst, Bool, none-some, same_Some, slice_get_within, Edge, Row, Keeps, Lists, edges_along, edges_of}
use Rattle.at_index.proofs.Lists.{head_of}
use Rattle.at_index.proofs.Gained.{get_same, lists_before, lists_behind}
use Rattle.at_index.proofs.Listing.{listed_one}
use Rattle.at_index.proofs.RowLists.{along_has}

-- at a place of these stands a row whose edges tell of no entry
abbrev pub StaleAt : (Edge → Bool) → List Row → ℕ → Type 0
StaleAt tells rows i = (o : Row) × (slice_get rows i ≡ Some o) × Keeps tells (edges_of o) []

-- one row is another one
one_else : {tells : Edge → Bool} {x : Edge} (rs : List Row) (i : ℕ) (o t : Row) → slice_get rs i ≡ Some o
    → Lists tells x (edges_of o) (edges_of t) → Lists tells x (edges_along rs) (edges_along (slice_set rs i t))
one_else [] i o t at lists = absurd (none-some o at)
one_else {tells} {x} (r ∷ rs) zero o t at lists =
    lists_behind (edges_along rs) (subst (λ w. Lists tells x (edges_of w) (edges_of t)) (sym (same_Some r o at)) lists)
one_else (r ∷ rs) (suc i) o t at lists = lists_before (edges_of r) (one_else rs i o t at lists)

pub row_inside : {tells : Edge → Bool} {read mid : List Row} (i : ℕ) → read ≡ mid → StaleAt tells read i → i < length mid
row_inside {tells} {read} {mid} i same (o, at, stale) = subst (λ rs. i < length rs) same (slice_get_within read i o at)

-- an edge comes in place of that row
pub row_comes : {tells : Edge → Bool} {read mid new : List Row} (i : ℕ) (t : Row) (x : Edge) → read ≡ mid → StaleAt tells read i
    → edges_of t ≡ x ∷ [] → new ≡ slice_set mid i t
    → Lists tells x (edges_along mid) (edges_along new) × Contains (edges_along new) x
row_comes {tells} {read} {mid} {new} i t x same (o, at, stale) one so =
    let at_mid : slice_get mid i ≡ Some o = ap (λ rs. slice_get rs i) (sym same) ∙ at in
    let at_new : slice_get new i ≡ Some t = ap (λ rs. slice_get rs i) so ∙ get_same mid i t o at_mid in (
      subst (λ rs. Lists tells x (edges_along mid) (edges_along rs)) (sym so) (one_else mid i o t at_mid (listed_one stale one)),
      along_has new i t x at_new (subst (λ ys. Contains ys x) (sym one) (head_of x [])),
    )

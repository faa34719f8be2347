-- Rows without an edge.
use Rattle.at_index.proofs.Common.{◌≡◌, ◌<◌, ◌≤◌, ◌+◌, ◌-◌, ℕ, zero, suc, true, false, List, [], ◌∷◌, ◌++◌, nat_eq, length, get_or, take, arith, refl, sym, ap, ◌∙◌, eqb-true, take_all, eq-eqb, ne_eqb, take_more, Edge, Row, edges_along, edges_of}
use Rattle.at_index.proofs.RowLists.{along_end}

none_left : (xs : List Edge) → nat_eq (length xs) 0 ≡ true → xs ≡ []
none_left [] h = refl
none_left (x ∷ xs) h = absurd (let e = eqb-true (length (x ∷ xs)) 0 h in omega (arith, e))

along_more : (rs : List Row) (i : ℕ) (d : Row) → i < length rs → edges_along (take (i + 1) rs) ≡ edges_along (take i rs) ++ edges_of (get_or rs i d)
along_more rs i d less = ap edges_along (take_more rs i d less) ∙ along_end (take i rs) (get_or rs i d)

pub none_more : (rs : List Row) (i : ℕ) (d : Row) → i < length rs → edges_along (take i rs) ≡ [] → nat_eq (length (edges_of (get_or rs i d))) 0 ≡ true → edges_along (take (i + 1) rs) ≡ []
none_more rs i d less before none = along_more rs i d less ∙ ap (λ es. es ++ edges_of (get_or rs i d)) before ∙ none_left (edges_of (get_or rs i d)) none

pub none_at_all : (rs : List Row) (i : ℕ) → length rs ≤ i → edges_along (take i rs) ≡ [] → true ≡ nat_eq (length (edges_along rs)) 0
none_at_all rs i long none = sym (ap (λ es. nat_eq (length es) 0) (sym (ap edges_along (take_all i rs long)) ∙ none) ∙ eq-eqb 0 0 refl)

some_of : (xs ys : List Edge) → nat_eq (length xs) 0 ≡ false → false ≡ nat_eq (length (xs ++ ys)) 0
some_of [] ys h = absurd (let e = sym (eq-eqb 0 0 refl) ∙ h in cc)
some_of (x ∷ xs) ys h = sym (ne_eqb (length (x ∷ xs ++ ys)) 0 (λ e. omega (arith, e)))

behind : (xs ys : List Edge) → false ≡ nat_eq (length ys) 0 → false ≡ nat_eq (length (xs ++ ys)) 0
behind [] ys h = h
behind (x ∷ xs) ys h = sym (ne_eqb (length (x ∷ xs ++ ys)) 0 (λ e. omega (arith, e)))

pub some_there : (rs : List Row) (i : ℕ) (d : Row) → i < length rs → nat_eq (length (edges_of (get_or rs i d))) 0 ≡ false → false ≡ nat_eq (length (edges_along rs)) 0
some_there [] i d less some = absurd (omega (arith, less))
some_there (r ∷ rs) zero d less some = some_of (edges_of r) (edges_along rs) some
some_there (r ∷ rs) (suc i) d less some = behind (edges_of r) (edges_along rs) (some_there rs i d (omega (arith, less)) some)

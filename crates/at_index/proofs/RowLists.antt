-- Lists of rows lose edges that tell of no entry, and gain one.
use Rattle.at_index.proofs.Common.{◌≡◌, inl, inr, ℕ, zero, suc, ◌<◌, List, [], ◌∷◌, ◌++◌, nat_eq, true, false, Contains, Some, length, get_or, slice_get, slice_set, take, ◌+◌, swap_remove, IsPermutation, refl, sym, ap, ◌∙◌, subst, append-nil, append_assoc, arith, eqb-true, Bool, flat_map, get_or_default, take_more, Contains-append_cases, Contains-append_left, Contains-append_right, Contains-push, Contains-permutation, IsPermutation-swap_remove, IsPermutation-sym, Contains-cons, Contains-cons_cases, Edge, Row, Keeps, Lists, edges_along, edges_of}
use Rattle.std.proofs.lemmas.Grind.{flat_map-append}
use Rattle.at_index.proofs.Lists.{head_of, get_contains, none_in}
use Rattle.at_index.proofs.Listing.{listed_one}

pub keeps_then : {tells : Edge → Bool} {old mid new : List Edge} → Keeps tells old mid → Keeps tells mid new → Keeps tells old new
keeps_then a b = record { keeps = λ y c live. b.keeps y (a.keeps y c live) live; from = λ y c. a.from y (b.from y c) }

-- an edge in front that tells of no entry goes
pub keeps_rest : {tells : Edge → Bool} {old : List Edge} (x : Edge) (rest : List Edge) → old ≡ x ∷ rest → tells x ≡ false → Keeps tells old rest
keeps_rest {tells} {old} x rest is stale = record {
  keeps = λ y c live. elim (Contains-cons_cases x y rest (subst (λ ys. Contains ys y) is c)) [
    | inl alike ↦ absurd (let fresh = ap tells alike ∙ live in cc)
    | inr d ↦ d
  ];
  from = λ y c. subst (λ ys. Contains ys y) (sym is) (Contains-cons x y rest c);
}

module _ {X Y : Type 0} (f : X → List Y) where
  pub along_from : (xs : List X) (y : Y) → Contains (flat_map f xs) y → (x : X) × Contains xs x × Contains (f x) y
  along_from [] y c = absurd (none_in y c)
  along_from (x ∷ xs) y c = elim (Contains-append_cases (f x) (flat_map f xs) y c) [
    | inl here ↦ (x, head_of x xs, here)
    | inr there ↦ let (z, d, e) = along_from xs y there in (z, Contains-cons x z xs d, e)
  ]

  pub along_to : (xs : List X) (x : X) (y : Y) → Contains xs x → Contains (f x) y → Contains (flat_map f xs) y
  along_to [] x y d c = absurd (none_in x d)
  along_to (z ∷ zs) x y d c = elim (Contains-cons_cases z x zs d) [
    | inl same ↦ Contains-append_left (f z) (flat_map f zs) y (subst (λ w. Contains (f w) y) (sym same) c)
    | inr e ↦ Contains-append_right (f z) (flat_map f zs) y (along_to zs x y e c)
  ]

-- what a row has stands along the rows
pub along_has : (rs : List Row) (k : ℕ) (r : Row) (x : Edge) → slice_get rs k ≡ Some r → Contains (edges_of r) x
    → Contains (edges_along rs) x
along_has rs k r x is c = along_to edges_of rs r x (get_contains rs k r is) c

-- a row whose edges tell of no entry goes
pub row_goes : {tells : Edge → Bool} {read mid new : List Row} (i : ℕ) (r d t : Row) → i < length mid → read ≡ mid → r ≡ get_or mid i r → Keeps tells (edges_of (get_or read i d)) (edges_of t) → nat_eq (length (edges_of t)) 0 ≡ true →
    new ≡ swap_remove mid i r → Keeps tells (edges_along mid) (edges_along new)
row_goes {tells} {read} {mid} {new} i r d t inside same is trims none swapped =
    let shuffled : IsPermutation mid (r ∷ new) = subst (λ ys. IsPermutation mid (r ∷ ys)) (sym swapped) (IsPermutation-swap_remove mid i r inside is) in
    let it : get_or read i d ≡ r = ap (λ (rs : List Row). get_or rs i d) same ∙ sym (get_or_default mid i r d inside) ∙ sym is in
    let empties : Keeps tells (edges_of r) [] = subst (λ w. Keeps tells (edges_of w) []) it (subst (Keeps tells (edges_of (get_or read i d))) (none_left (edges_of t) none) trims) in
    record {
      keeps = λ y c live.
          let (x, d, f) = along_from edges_of mid y c in
          elim (Contains-cons_cases r x new (Contains-permutation mid (r ∷ new) x shuffled d)) [
            | inl alike ↦ absurd (none_in y (empties.keeps y (subst (λ w. Contains (edges_of w) y) (sym alike) f) live))
            | inr rest ↦ along_to edges_of new x y rest f
          ];
      from = λ y c.
          let (x, d, f) = along_from edges_of new y c in
          along_to edges_of mid x y (Contains-permutation (r ∷ new) mid x (IsPermutation-sym mid (r ∷ new) shuffled) (Contains-cons r x new d)) f;
    }
  where
    none_left : (xs : List Edge) → nat_eq (length xs) 0 ≡ true → xs ≡ []
    none_left [] h = refl
    none_left (x ∷ xs) h = absurd (let e = eqb-true (length (x ∷ xs)) 0 h in omega (arith, e))

module _ {tells : Edge → Bool} where
  keeps_before : (front : List Edge) {a b : List Edge} → Keeps tells a b → Keeps tells (front ++ a) (front ++ b)
  keeps_before front {a} {b} k = record {
    keeps = λ y c live. elim (Contains-append_cases front a y c) [ inl d ↦ Contains-append_left front b y d | inr d ↦ Contains-append_right front b y (k.keeps y d live) ];
    from = λ y c. elim (Contains-append_cases front b y c) [ inl d ↦ Contains-append_left front a y d | inr d ↦ Contains-append_right front a y (k.from y d) ];
  }

  keeps_behind : (back : List Edge) {a b : List Edge} → Keeps tells a b → Keeps tells (a ++ back) (b ++ back)
  keeps_behind back {a} {b} k = record {
    keeps = λ y c live. elim (Contains-append_cases a back y c) [ inl d ↦ Contains-append_left b back y (k.keeps y d live) | inr d ↦ Contains-append_right b back y d ];
    from = λ y c. elim (Contains-append_cases b back y c) [ inl d ↦ Contains-append_left a back y (k.from y d) | inr d ↦ Contains-append_right a back y d ];
  }

  set_along : (rs : List Row) (i : ℕ) (d s : Row) → i < length rs → Keeps tells (edges_of (get_or rs i d)) (edges_of s) → Keeps tells (edges_along rs) (edges_along (slice_set rs i s))
  set_along [] i d s inside k = absurd (omega (arith, inside))
  set_along (x ∷ rs) zero d s inside k = keeps_behind (edges_along rs) k
  set_along (x ∷ rs) (suc i) d s inside k = keeps_before (edges_of x) (set_along rs i d s (omega (arith, inside)) k)

-- a row is shorter
pub row_set : {tells : Edge → Bool} {read mid new : List Row} (i : ℕ) (d s : Row) → i < length mid → read ≡ mid → Keeps tells (edges_of (get_or read i d)) (edges_of s) → new ≡ slice_set mid i s → Keeps tells (edges_along mid) (edges_along new)
row_set {tells} {read} {mid} i d s inside same k is =
    subst (λ rs. Keeps tells (edges_along mid) (edges_along rs)) (sym is) (set_along mid i d s inside (subst (λ rs. Keeps tells (edges_of (get_or rs i d)) (edges_of s)) same k))

-- one row more stands at the end
pub along_end : (rs : List Row) (r : Row) → edges_along (rs ++ r ∷ []) ≡ edges_along rs ++ edges_of r
along_end rs r = flat_map-append edges_of rs (r ∷ []) ∙ ap (λ xs. edges_along rs ++ xs) (append-nil (edges_of r))

-- a new row of one edge
pub one_row : (rs new : List Row) (r : Row) (x : Edge) → new ≡ rs ++ r ∷ [] → edges_of r ≡ x ∷ [] → edges_along new ≡ edges_along rs ++ x ∷ []
one_row rs new r x is alone = ap edges_along is ∙ along_end rs r ∙ ap (λ xs. edges_along rs ++ xs) alone

pub lists_row : {tells : Edge → Bool} {old mid : List Edge} (rs new : List Row) (r : Row) (x : Edge) → mid ≡ edges_along rs → Keeps tells old mid → new ≡ rs ++ r ∷ [] → edges_of r ≡ x ∷ [] → Lists tells x old (edges_along new)
lists_row rs new r x same k is alone = listed_one k (one_row rs new r x is alone ∙ ap (λ es. es ++ x ∷ []) (sym same))

pub has_row : (rs new : List Row) (r : Row) (x : Edge) → new ≡ rs ++ r ∷ [] → edges_of r ≡ x ∷ [] → Contains (edges_along new) x
has_row rs new r x is alone = subst (λ es. Contains es x) (sym (one_row rs new r x is alone)) (Contains-push (edges_along rs) x)

-- a row alone
pub none_along : (rs : List Row) → length rs ≡ 0 → [] ≡ edges_along rs
none_along [] none = refl
none_along (r ∷ rs) none = absurd (omega (arith, none))

pub alone_along : (rs others : List Row) (r : Row) → rs ≡ r ∷ others → length others ≡ 0 → edges_of r ≡ edges_along rs
alone_along rs [] r is none = sym (append-nil (edges_of r)) ∙ sym (ap edges_along is)
alone_along rs (s ∷ others) r is none = absurd (omega (arith, none))

longer_last : (rs : List Row) (i : ℕ) (d s : Row) (x : Edge) → length rs ≡ suc i → edges_of s ≡ edges_of (get_or rs i d) ++ x ∷ [] → edges_along (slice_set rs i s) ≡ edges_along rs ++ x ∷ []
longer_last [] i d s x long longer = absurd (omega (arith, long))
longer_last (y ∷ []) zero d s x long longer = append-nil (edges_of s) ∙ longer ∙ ap (λ ys. ys ++ x ∷ []) (sym (append-nil (edges_of y)))
longer_last (y ∷ z ∷ rs) zero d s x long longer = absurd (omega (arith, long))
longer_last (y ∷ rs) (suc i) d s x long longer =
    ap (λ ys. edges_of y ++ ys) (longer_last rs i d s x (omega (arith, long)) longer) ∙ sym (append_assoc (edges_of y) (edges_along rs) (x ∷ []))

-- the last row has one edge more
pub last_longer : (rs read : List Row) (i : ℕ) (d s : Row) (x : Edge) → length rs ≡ suc i → read ≡ rs → edges_of s ≡ edges_of (get_or read i d) ++ x ∷ [] → edges_along (slice_set rs i s) ≡ edges_along rs ++ x ∷ []
last_longer rs read i d s x long same longer = longer_last rs i d s x long (longer ∙ ap (λ (ys : List Row). edges_of (get_or ys i d) ++ x ∷ []) same)

-- one row more is gone along
pub along_more : (rs : List Row) (i : ℕ) (d : Row) → i < length rs → edges_along (take i rs) ++ edges_of (get_or rs i d) ≡ edges_along (take (i + 1) rs)
along_more rs i d less = sym (along_end (take i rs) (get_or rs i d)) ∙ ap edges_along (sym (take_more rs i d less))

-- Lists of edges that lose those that tell of no entry, and gain one.
use Rattle.at_index.proofs.Common.{◌≡◌, ◌⊎◌, inl, inr, ℕ, List, [], ◌∷◌, ◌++◌, Bool, true, false, Contains, refl, sym, subst, zero, suc, take, eqb-true, list_any, and_from, Contains-append_left, Contains-push, Contains-push_cases, Contains-cons, Contains-cons_cases, both, Edge, same_edge, AreListed, Keeps, Lists, Reads}
use Rattle.std.proofs.Common.{eq-eqb}
use Rattle.at_index.proofs.Lists.{any_of, head_of, none_in, some_of}

pub has : (xs : List Edge) (x : Edge) → Contains xs x → list_any (same_edge x) xs ≡ true
has xs x c = any_of (same_edge x) xs x c (and_from _ _ (eq-eqb x.slot x.slot refl) (eq-eqb x.stamp x.stamp refl))

pub is_in : (xs : List Edge) (x : Edge) → list_any (same_edge x) xs ≡ true → Contains xs x
is_in xs x h =
    let (y, c, is) = some_of (same_edge x) xs h in
    let (slots, stamps) = both _ _ is in
    let same : x ≡ y = λ i. record { slot = eqb-true x.slot y.slot slots i; stamp = eqb-true x.stamp y.stamp stamps i } in
    subst (Contains xs) (sym same) c

pub kept_all : (tells : Edge → Bool) (old new : List Edge) → new ≡ old → Keeps tells old new
kept_all tells old new is = record { keeps = λ y c live. subst (λ ys. Contains ys y) (sym is) c; from = λ y c. subst (λ ys. Contains ys y) is c }

pub kept_on : {tells : Edge → Bool} {old mid new : List Edge} → Keeps tells old mid → new ≡ mid → Keeps tells old new
kept_on {tells} {old} k is = subst (Keeps tells old) (sym is) k

pub listed_none : {tells : Edge → Bool} {x : Edge} {old new : List Edge} → Keeps tells old new → Lists tells x old new
listed_none k = record { keeps = k.keeps; only = λ y c. inl (k.from y c) }

pub listed_one : {tells : Edge → Bool} {x : Edge} {old mid new : List Edge} → Keeps tells old mid → new ≡ mid ++ x ∷ [] → Lists tells x old new
listed_one {tells} {x} {old} {mid} {new} k is = record {
  keeps = λ y c live. subst (λ ys. Contains ys y) (sym is) (Contains-append_left mid (x ∷ []) y (k.keeps y c live));
  only = λ y c. elim (Contains-push_cases mid x y (subst (λ ys. Contains ys y) is c)) [ inl d ↦ inl (k.from y d) | inr same ↦ inr (sym same) ];
}

pub lists_moved : {told now : Edge → Bool} {x : Edge} {old was new : List Edge} → ((y : Edge) → told y ≡ true → now y ≡ true) → was ≡ old
    → Lists now x was new → Lists told x old new
lists_moved {told} {now} {x} {old} {was} {new} on same l =
    subst (λ es. Lists told x es new) same (record { keeps = λ y c live. l.keeps y c (on y live); only = l.only })

pub lists_same : {tells : Edge → Bool} {x : Edge} {old new : List Edge} → new ≡ old → Lists tells x old new
lists_same is = listed_none (kept_all _ _ _ is)

-- no location yet
pub reads_none : {L : Type 0} (tells : Edge → Bool) (x : Edge) (lists : L → List Edge) → Reads tells x [] lists lists
reads_none {L} tells x lists = record { keeps = λ l y c live. c; only = λ l y c. inl c }

-- nothing has changed yet
pub reads_unchanged : {L : Type 0} (tells : Edge → Bool) (x : Edge) (ls : List L) (lists : L → List Edge)
    → Reads tells x ls lists lists
reads_unchanged {L} tells x ls lists = record { keeps = λ l y c live. c; only = λ l y c. inl c }

more_in : {L : Type 0} (ls : List L) (l k : L) → Contains ls k → Contains (ls ++ l ∷ []) k
more_in {L} ls l k c = Contains-append_left ls (l ∷ []) k c

pub in_take : {L : Type 0} (n : ℕ) (xs : List L) (x : L) → Contains (take n xs) x → Contains xs x
in_take zero xs x c = absurd (none_in x c)
in_take (suc n) [] x c = c
in_take (suc n) (y ∷ ys) x c = elim (Contains-cons_cases y x (take n ys) c) [ inl same ↦ subst (λ z. Contains (z ∷ ys) x) (sym same) (head_of x ys) | inr d ↦ Contains-cons y x ys (in_take n ys x d) ]

pub reads_all : {L : Type 0} {tells : Edge → Bool} {x : Edge} {old new : L → List Edge} (n : ℕ) (ls : List L) → Reads tells x (take n ls) old new → Reads tells x ls old new
reads_all {L} {tells} {x} {old} {new} n ls r = record { keeps = r.keeps; only = λ k y c. elim (r.only k y c) [ inl d ↦ inl d | inr (is, d) ↦ inr (is, in_take n ls k d) ] }

module _ {L : Type 0} (cases : (k l : L) → (k ≡ l) ⊎ (k ≡ l → ⊥)) {tells : Edge → Bool} {x : Edge} where
  -- one location more
  pub reads_more : {old mid new : L → List Edge} {ls : List L} (l : L) → Reads tells x ls old mid → ((k : L) → Lists tells x (mid k) (new k)) → ((k : L) → (k ≡ l → ⊥) → new k ≡ mid k) → Reads tells x (ls ++ l ∷ []) old new
  reads_more {old} {mid} {new} {ls} l r lists others = record {
    keeps = λ k y c live. (lists k).keeps y (r.keeps k y c live) live;
    only = λ k y c. elim (cases k l) [
      | inl at_l ↦ elim ((lists k).only y c) [
        | inl d ↦ before k y (r.only k y d)
        | inr is ↦ inr (is, subst (Contains (ls ++ l ∷ [])) (sym at_l) (Contains-push ls l))
      ]
      | inr differs ↦ before k y (r.only k y (subst (λ es. Contains es y) (others k differs) c))
    ];
  }
    where
      before : (k : L) (y : Edge) → Contains (old k) y ⊎ ((y ≡ x) × Contains ls k) → Contains (old k) y ⊎ ((y ≡ x) × Contains (ls ++ l ∷ []) k)
      before k y (inl c) = inl c
      before k y (inr (is, c)) = inr (is, more_in ls l k c)

-- a step on a way through all locations
module _ {L : Type 0} {x : Edge} {mid new : L → List Edge} (ls : List L) (come : L → Bool)
    (others : (l : L) → come l ≡ false → new l ≡ mid l) where
  -- those that come are some of them
  pub reads_on : {tells : Edge → Bool} {old : L → List Edge} → Reads tells x ls old mid → ((l : L) → Lists tells x (mid l) (new l))
      → ((l : L) → come l ≡ true → Contains ls l) → Reads tells x ls old new
  reads_on {tells} {old} r lists from = record {
    keeps = λ l y c live. (lists l).keeps y (r.keeps l y c live) live;
    only = λ l y c. by l y c (come l) refl;
  }
    where
      by : (l : L) (y : Edge) → Contains (new l) y → (b : Bool) → come l ≡ b
          → Contains (old l) y ⊎ ((y ≡ x) × Contains ls l)
      by l y c true is = elim ((lists l).only y c) [ inl d ↦ r.only l y d | inr alike ↦ inr (alike, from l is) ]
      by l y c false is = r.only l y (subst (λ es. Contains es y) (others l is) c)

  -- and it stands at all of them but those that are left
  pub listed_on : (rest left : List L) → ((l : L) → Contains ls l → Contains rest l ⊎ Contains (mid l) x)
      → ((l : L) → come l ≡ true → Contains (new l) x)
      → ((l : L) → Contains rest l → (come l ≡ true) ⊎ Contains left l) → (l : L) → Contains ls l
      → Contains left l ⊎ Contains (new l) x
  listed_on rest left before has all l c = elim (before l c) [
    | inl d ↦ elim (all l d) [ inl is ↦ inr (has l is) | inr e ↦ inl e ]
    | inr d ↦ by (come l) refl d
  ]
    where
      by : (b : Bool) → come l ≡ b → Contains (mid l) x → Contains left l ⊎ Contains (new l) x
      by true is d = inr (has l is)
      by false is d = inr (subst (λ es. Contains es x) (sym (others l is)) d)

pub listed_more : {L : Type 0} (cases : (k l : L) → (k ≡ l) ⊎ (k ≡ l → ⊥)) {x : Edge} {mid new : L → List Edge} (ls : List L) (l : L) → AreListed x ls mid → Contains (new l) x → ((k : L) → (k ≡ l → ⊥) → new k ≡ mid k) → AreListed x (ls ++ l ∷ []) new
listed_more {L} cases {x} {mid} {new} ls l a has others k c = elim (cases k l) [
  | inl at_l ↦ subst (λ n. Contains (new n) x) (sym at_l) has
  | inr differs ↦ elim (Contains-push_cases ls l k c) [
    | inl d ↦ subst (λ es. Contains es x) (sym (others k differs)) (a k d)
    | inr same ↦ absurd (differs (sym same))
  ]
]

pub keeps_itself : (tells : Edge → Bool) (old : List Edge) → Keeps tells old old
keeps_itself tells old = kept_all tells old old refl

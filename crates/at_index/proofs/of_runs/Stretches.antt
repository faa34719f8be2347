-- Locations of which some at the front have one edge more, and others are left.
use Rattle.at_index.proofs.Common.{arith, drop, map, take, take-append-drop, ◌≡◌, ◌⊎◌, inl, inr, ℕ, List, [], ◌∷◌, ◌++◌, Bool, true, false, Contains, Result, Ok, Err, OnOk, length, nat_eq, refl, sym, ap, ◌∙◌, subst, eq-eqb, or_left, or_right, map-append, Contains-append_cases, Contains-append_left, Contains-append_right, Location, Loc, loc_view, Edge, AreListed, Reads, AddsReads, ListsBut, Stays, is_live, Keeps}
use Rattle.at_index.proofs.Lists.{none_in}

module _ {L : Type 0} {tells : Edge → Bool} {x : Edge} where
  -- some of the locations have one edge more
  pub reads_then : {old mid new : L → List Edge} {ls rest : List L} → Reads tells x ls old mid → Reads tells x rest mid new → ((l : L) → Contains rest l → Contains ls l)
      → Reads tells x ls old new
  reads_then a b some = record {
    keeps = λ l y c live. b.keeps l y (a.keeps l y c live) live;
    only = λ l y c. elim (b.only l y c) [ inl d ↦ a.only l y d | inr (is, d) ↦ inr (is, some l d) ];
  }

  pub reads_within : {old new : L → List Edge} {ls more : List L} → Reads tells x ls old new → ((l : L) → Contains ls l → Contains more l) → Reads tells x more old new
  reads_within a some = record { keeps = a.keeps; only = λ l y c. elim (a.only l y c) [ inl d ↦ inl d | inr (is, d) ↦ inr (is, some l d) ] }

  -- beside lists that stay as they are
  pub reads_beside : {old new : L → List Edge} {ls : List L} (more : L → List Edge) → Reads tells x ls old new → Reads tells x ls (λ l. old l ++ more l) (λ l. new l ++ more l)
  reads_beside {old} {new} more a = record {
    keeps = λ l y c live. elim (Contains-append_cases (old l) (more l) y c) [
      | inl d ↦ Contains-append_left (new l) (more l) y (a.keeps l y d live)
      | inr d ↦ Contains-append_right (new l) (more l) y d
    ];
    only = λ l y c. elim (Contains-append_cases (new l) (more l) y c) [
      | inl d ↦ elim (a.only l y d) [ inl e ↦ inl (Contains-append_left (old l) (more l) y e) | inr e ↦ inr e ]
      | inr d ↦ inl (Contains-append_right (old l) (more l) y d)
    ];
  }

module _ {L : Type 0} {x : Edge} where
  pub stays_beside : (old new : L → List Edge) (more : L → List Edge) → Stays x old new → Stays x (λ l. old l ++ more l) (λ l. new l ++ more l)
  stays_beside old new more a l c = elim (Contains-append_cases (old l) (more l) x c) [
    | inl d ↦ Contains-append_left (new l) (more l) x (a l d)
    | inr d ↦ Contains-append_right (new l) (more l) x d
  ]

  pub stays_behind : (own : L → List Edge) (old new : L → List Edge) → Stays x old new → Stays x (λ l. own l ++ old l) (λ l. own l ++ new l)
  stays_behind own old new a l c = elim (Contains-append_cases (own l) (old l) x c) [
    | inl d ↦ Contains-append_left (own l) (new l) x d
    | inr d ↦ Contains-append_right (own l) (new l) x (a l d)
  ]

  pub listed_beside : (new : L → List Edge) (ls : List L) (more : L → List Edge) → AreListed x ls new → AreListed x ls (λ l. new l ++ more l)
  listed_beside new ls more a l c = Contains-append_left (new l) (more l) x (a l c)

  -- a step on a way through locations
  pub stays_on : (old mid new : L → List Edge) (come : L → Bool) → ((l : L) → come l ≡ false → new l ≡ mid l) → Stays x old mid
      → ((l : L) → come l ≡ true → Contains (new l) x) → Stays x old new
  stays_on old mid new come others stay has l c = by (come l) refl
    where
      by : (b : Bool) → come l ≡ b → Contains (new l) x
      by true is = has l is
      by false is = subst (λ es. Contains es x) (sym (others l is)) (stay l c)

pub live_itself : (tells : Edge → Bool) (x : Edge) → is_live tells x x ≡ true
live_itself tells x = or_right (tells x) (nat_eq x.stamp x.stamp) (eq-eqb x.stamp x.stamp refl)

-- what is added is read, and what stood stays
pub reads_added : {tells : Edge → Bool} {x : Edge} {ls : List (Location ℕ)} {old new : Location ℕ → List Edge} → AddsReads tells x ls old new → Reads tells x ls old new
reads_added {tells} {x} a = record { keeps = λ l y c live. a.keeps l y c (or_left (tells y) (nat_eq y.stamp x.stamp) live); only = a.only }

pub stays_added : (tells : Edge → Bool) {x : Edge} {ls : List (Location ℕ)} {old new : Location ℕ → List Edge} → AddsReads tells x ls old new
    → (l : Location ℕ) → Contains (old l) x → Contains (new l) x
stays_added tells {x} a l c = a.keeps l x c (live_itself tells x)

-- lists lose what isn't live behind it
pub adds_before : {live : Edge → Bool} {x : Edge} {ls : List (Location ℕ)} {old mid new : Location ℕ → List Edge}
    → Reads live x ls old mid → ((l : Location ℕ) → Keeps live (mid l) (new l)) → Reads live x ls old new
adds_before a h = record {
  keeps = λ l y c on. (h l).keeps y (a.keeps l y c on) on;
  only = λ l y c. a.only l y ((h l).from y c);
}

pub lists_kept : (tells : Edge → Bool) {x : Edge} {ls left : List (Location ℕ)} {old new : Location ℕ → List Edge}
    → ListsBut x ls left old → ((l : Location ℕ) → Keeps (is_live tells x) (old l) (new l)) → ListsBut x ls left new
lists_kept tells {x} b h = record {
  all = λ l c. elim (b.all l c) [ inl d ↦ inl ((h l).keeps x d (live_itself tells x)) | inr e ↦ inr e ];
  rest = b.rest;
}

-- some of the locations have the edge, and others come to have it
pub but_then : {x : Edge} {mid new : Location ℕ → List Edge} {all rest left : List (Location ℕ)} → ListsBut x all rest mid → Stays x mid new
    → ListsBut x rest left new → ListsBut x all left new
but_then a stay b = record {
  all = λ l c. elim (a.all l c) [ inl d ↦ inl (stay l d) | inr d ↦ b.all l d ];
  rest = λ l c. a.rest l (b.rest l c);
}

pub but_all : {x : Edge} {mid : Location ℕ → List Edge} (new : Location ℕ → List Edge) {all rest : List (Location ℕ)} → ListsBut x all rest mid → Stays x mid new
    → AreListed x rest new → AreListed x all new
but_all new a stay b l c = elim (a.all l c) [ inl d ↦ stay l d | inr d ↦ b l d ]

pub both_ok : {T E A B C : Type 0} (r : Result T E) → (A → B → C) → OnOk r A → OnOk r B → OnOk r C
both_ok (Ok x) f a b = f a b
both_ok (Err e) f a b = a

pub none_left : {A : Type 0} (f : A → Location ℕ) (x : Edge) (all : List (Location ℕ)) (rest : List A) (lists : Location ℕ → List Edge)
    → length rest ≡ 0 → ListsBut x all (map f rest) lists → AreListed x all lists
none_left f x all [] lists none a l c = elim (a.all l c) [ inl d ↦ d | inr d ↦ absurd (none_in l d) ]
none_left f x all (y ∷ ys) lists none a l c = absurd (omega (arith, none))

-- locations in front, and others behind them
pub reads_parts : {tells : Edge → Bool} {x : Edge} {old mid new : Location ℕ → List Edge} {front others all : List (Location ℕ)}
    → ((l : Location ℕ) → Contains front l → Contains all l) → ((l : Location ℕ) → Contains others l → Contains all l)
    → Reads tells x front old mid → AddsReads tells x others mid new → Reads tells x all old new
reads_parts before behind a b = reads_then (reads_within a before) (reads_added b) behind

pub lists_parts : (tells : Edge → Bool) {x : Edge} {mid new : Location ℕ → List Edge} (front : List (Location ℕ)) {others left all : List (Location ℕ)}
    → ((l : Location ℕ) → Contains others l → Contains all l) → ((l : Location ℕ) → Contains all l → Contains front l ⊎ Contains others l)
    → AreListed x front mid → AddsReads tells x others mid new → ListsBut x others left new → ListsBut x all left new
lists_parts tells front behind cases first added but = record {
  all = λ l c. elim (cases l c) [ inl d ↦ inl (stays_added tells added l (first l d)) | inr d ↦ but.all l d ];
  rest = λ l c. behind l (but.rest l c);
}

-- beside lists that stay as they are
pub adds_beside : {live : Edge → Bool} {x : Edge} {ls : List (Location ℕ)} {old new : Location ℕ → List Edge} (own : Location ℕ → List Edge)
    → Reads live x ls old new → Reads live x ls (λ l. own l ++ old l) (λ l. own l ++ new l)
adds_beside {old = old} {new = new} own a = record {
  keeps = λ l y c on. elim (Contains-append_cases (own l) (old l) y c) [
    | inl d ↦ Contains-append_left (own l) (new l) y d
    | inr d ↦ Contains-append_right (own l) (new l) y (a.keeps l y d on)
  ];
  only = λ l y c. elim (Contains-append_cases (own l) (new l) y c) [
    | inl d ↦ inl (Contains-append_left (own l) (old l) y d)
    | inr d ↦ elim (a.only l y d) [ inl e ↦ inl (Contains-append_right (own l) (old l) y e) | inr e ↦ inr e ]
  ];
}

pub but_beside : {x : Edge} {ls left : List (Location ℕ)} {new : Location ℕ → List Edge} (own : Location ℕ → List Edge) → ListsBut x ls left new
    → ListsBut x ls left (λ l. own l ++ new l)
but_beside {x} {new = new} own b = record {
  all = λ l c. elim (b.all l c) [ inl d ↦ inl (Contains-append_right (own l) (new l) x d) | inr d ↦ inr d ];
  rest = b.rest;
}

-- locations, by the first of them and the others
module _ {x : Edge} (y : Loc) (xs ys : List Loc) (is : xs ≡ y ∷ ys) where
  pub reads_first : {tells : Edge → Bool} {old new : Location ℕ → List Edge} → Reads tells x (loc_view y ∷ map loc_view ys) old new
      → Reads tells x (map loc_view xs) old new
  reads_first {tells} {old} {new} r = subst (λ (zs : List Loc). Reads tells x (map loc_view zs) old new) (sym is) r

  pub but_first : {left : List (Location ℕ)} {new : Location ℕ → List Edge} → ListsBut x (loc_view y ∷ map loc_view ys) left new
      → ListsBut x (map loc_view xs) left new
  but_first {left} {new} b = subst (λ (zs : List Loc). ListsBut x (map loc_view zs) left new) (sym is) b

-- locations in two parts
module _ {A L : Type 0} (f : A → L) (n : ℕ) (xs : List A) where
  parts : map f xs ≡ map f (take n xs) ++ map f (drop n xs)
  parts = ap (map f) (sym (take-append-drop n xs)) ∙ map-append f (take n xs) (drop n xs)

  pub in_front : (l : L) → Contains (map f (take n xs)) l → Contains (map f xs) l
  in_front l c = subst (λ ls. Contains ls l) (sym parts) (Contains-append_left (map f (take n xs)) (map f (drop n xs)) l c)

  pub in_back : (l : L) → Contains (map f (drop n xs)) l → Contains (map f xs) l
  in_back l c = subst (λ ls. Contains ls l) (sym parts) (Contains-append_right (map f (take n xs)) (map f (drop n xs)) l c)

  pub in_parts : (l : L) → Contains (map f xs) l → Contains (map f (take n xs)) l ⊎ Contains (map f (drop n xs)) l
  in_parts l c = Contains-append_cases (map f (take n xs)) (map f (drop n xs)) l (subst (λ ls. Contains ls l) parts c)

-- One location has one edge more.
use Rattle.at_index.proofs.Common.{◌≡◌, inl, inr, ℕ, zero, suc, List, [], ◌∷◌, ◌++◌, Bool, true, false, cond, Some, Result, OnOk, Contains, get_or, slice_get, slice_set, refl, sym, ap, ◌∙◌, subst, cases_eq, none-some, same_Some, get_or_from_slice_get, Contains-append_cases, Contains-append_left, Contains-append_right, SmallVec, Location, Edge, Edges, Facet, Readers, edges_in, node_at, HasChanged, ListsAt, with_edges, Lists, edges_among, edges_at, stands_for}
use Rattle.at_index.proofs.Beginning.{edges_of}
use Rattle.at_index.proofs.Listed.{edges_are, same_list}
use Rattle.at_index.proofs.Listing.{lists_same}

module _ {X : Type 0} where
  pub get_same : (xs : List X) (k : ℕ) (v w : X) → slice_get xs k ≡ Some w → slice_get (slice_set xs k v) k ≡ Some v
  get_same [] k v w h = absurd (none-some w h)
  get_same (x ∷ xs) zero v w h = refl
  get_same (x ∷ xs) (suc k) v w h = get_same xs k v w h

  pub get_other : (xs : List X) (k l : ℕ) (v : X) → (l ≡ k → ⊥) → slice_get (slice_set xs k v) l ≡ slice_get xs l
  get_other [] k l v differs = refl
  get_other (x ∷ xs) zero zero v differs = absurd (differs refl)
  get_other (x ∷ xs) zero (suc l) v differs = refl
  get_other (x ∷ xs) (suc k) zero v differs = refl
  get_other (x ∷ xs) (suc k) (suc l) v differs = get_other xs k l v (λ same. differs (ap suc same))

module _ {tells : Edge → Bool} {x : Edge} where
  pub lists_before : (front : List Edge) {a b : List Edge} → Lists tells x a b → Lists tells x (front ++ a) (front ++ b)
  lists_before front {a} {b} h = record {
    keeps = λ y c live. elim (Contains-append_cases front a y c) [ inl d ↦ Contains-append_left front b y d | inr d ↦ Contains-append_right front b y (h.keeps y d live) ];
    only = λ y c. elim (Contains-append_cases front b y c) [
      | inl d ↦ inl (Contains-append_left front a y d)
      | inr d ↦ elim (h.only y d) [ inl e ↦ inl (Contains-append_right front a y e) | inr same ↦ inr same ]
    ];
  }

  pub lists_behind : (rest : List Edge) {a b : List Edge} → Lists tells x a b → Lists tells x (a ++ rest) (b ++ rest)
  lists_behind rest {a} {b} h = record {
    keeps = λ y c live. elim (Contains-append_cases a rest y c) [ inl d ↦ Contains-append_left b rest y (h.keeps y d live) | inr d ↦ Contains-append_right b rest y d ];
    only = λ y c. elim (Contains-append_cases b rest y c) [
      | inl d ↦ elim (h.only y d) [ inl e ↦ inl (Contains-append_left a rest y e) | inr same ↦ inr same ]
      | inr d ↦ inl (Contains-append_right a rest y d)
    ];
  }

  pub lists_if : (b : Bool) {old new : List Edge} → Lists tells x old new → Lists tells x (cond b old []) (cond b new [])
  lists_if true h = h
  lists_if false h = lists_same refl

  -- one facet has other edges
  pub among_set : (n : ℕ) (l : Location ℕ) (rs : List Readers) (p : ℕ) (r : Readers) → slice_get rs p ≡ Some r → (es : Edges) → Lists tells x (edges_in r.edges) (edges_in es) → Lists tells x (edges_among n rs l) (edges_among n (slice_set rs p (with_edges es r)) l)
  among_set n l [] p r h es lists = absurd (none-some r h)
  among_set n l (y ∷ ys) zero r h es lists =
      subst (λ z. Lists tells x (edges_of n z l ++ edges_among n ys l) (edges_of n (with_edges es r) l ++ edges_among n ys l)) (sym (same_Some y r h))
      (lists_behind (edges_among n ys l) (lists_if (stands_for n r.facet l) lists))
  among_set n l (y ∷ ys) (suc p) r h es lists = lists_before (edges_of n y l) (among_set n l ys p r h es lists)

among_same : (n : ℕ) (l : Location ℕ) (rs : List Readers) (p : ℕ) (r : Readers) → slice_get rs p ≡ Some r → (es : Edges)
    → stands_for n r.facet l ≡ false → edges_among n (slice_set rs p (with_edges es r)) l ≡ edges_among n rs l
among_same n l [] p r h es off = refl
among_same n l (y ∷ ys) zero r h es off =
    ap (λ edges. edges ++ edges_among n ys l)
    (ap (λ b. cond b (edges_in es) []) off ∙ sym (ap (λ b. cond b (edges_in r.edges) []) off)
    ∙ ap (λ z. edges_of n z l) (sym (same_Some y r h)))
among_same n l (y ∷ ys) (suc p) r h es off = ap (λ edges. edges_of n y l ++ edges) (among_same n l ys p r h es off)

among_has : (n : ℕ) (l : Location ℕ) (rs : List Readers) (p : ℕ) (r : Readers) → slice_get rs p ≡ Some r
    → stands_for n r.facet l ≡ true → (es : Edges) (x : Edge) → Contains (edges_in es) x
    → Contains (edges_among n (slice_set rs p (with_edges es r)) l) x
among_has n l [] p r h stands es x c = absurd (none-some r h)
among_has n l (y ∷ ys) zero r h stands es x c =
    Contains-append_left (edges_of n (with_edges es r) l) (edges_among n ys l) x
    (subst (λ b. Contains (cond b (edges_in es) []) x) (sym stands) c)
among_has n l (y ∷ ys) (suc p) r h stands es x c =
    Contains-append_right (edges_of n y l) (edges_among n (slice_set ys p (with_edges es r)) l) x
    (among_has n l ys p r h stands es x c)

-- what stood at a place has these edges
pub gained_at : {E V : Type 0} (tells : Edge → Bool) (x : Edge) (rs : List Readers) (p : ℕ) (r : Readers) (v : Edges) (result : Result V E) → r ≡ get_or rs p r → Lists tells x (edges_in r.edges) (edges_in v) → OnOk result (Contains (edges_in v) x)
    → (edges : Edges) × HasChanged (with_edges edges) p rs (slice_set rs p (record { facet = r.facet; edges = v })) × ListsAt tells x p rs (edges_in edges) × OnOk result (Contains (edges_in edges) x)
gained_at tells x rs p r v result read lists has = (
  v,
  λ w at. ap (λ (z : Readers). slice_set rs p (record { facet = z.facet; edges = v })) (is w at),
  λ w at. subst (λ (z : Readers). Lists tells x (edges_in z.edges) (edges_in v)) (is w at) lists,
  has,
)
  where
    is : (w : Readers) → slice_get rs p ≡ Some w → r ≡ w
    is w at = read ∙ get_or_from_slice_get rs p w r at

-- the edges at a place are others
module _ (old made new : List Readers) (p : ℕ) (facet : Facet) (v : Edges) (same : (n : ℕ) (l : Location ℕ) → edges_among n made l ≡ edges_among n old l)
    (there : (r : Readers) × (slice_get made p ≡ Some r) × (r.facet ≡ facet)) (change : HasChanged (with_edges v) p made new) where
  pub among_changed : {tells : Edge → Bool} {x : Edge} → ListsAt tells x p made (edges_in v) → (n : ℕ) (l : Location ℕ) → Lists tells x (edges_among n old l) (edges_among n new l)
  among_changed {tells} {x} lists n l =
      let (r, at, is) = there in
      subst (λ es. Lists tells x es (edges_among n new l)) (same n l)
      (subst (λ rs. Lists tells x (edges_among n made l) (edges_among n rs l)) (sym (change r at))
      (among_set n l made p r at v (lists r at)))

  pub among_stays : (n : ℕ) (l : Location ℕ) → stands_for n facet l ≡ false → edges_among n new l ≡ edges_among n old l
  among_stays n l off =
      let (r, at, is) = there in
      ap (λ rs. edges_among n rs l) (change r at) ∙ among_same n l made p r at v (ap (λ f. stands_for n f l) is ∙ off)
      ∙ same n l

  pub among_gained : (x : Edge) (n : ℕ) → Contains (edges_in v) x → (l : Location ℕ) → stands_for n facet l ≡ true
      → Contains (edges_among n new l) x
  among_gained x n c l on =
      let (r, at, is) = there in
      subst (λ rs. Contains (edges_among n rs l) x) (sym (change r at))
      (among_has n l made p r at (ap (λ f. stands_for n f l) is ∙ on) v x c)

-- the list of a node is another one
module _ (old made new : List (SmallVec Readers)) (k : ℕ) (v : SmallVec Readers) {was : SmallVec Readers} (same : (l : Location ℕ) → edges_at made l ≡ edges_at old l) (there : slice_get made k ≡ Some was) (so : new ≡ slice_set made k v) where
  now : slice_get new k ≡ Some v
  now = ap (λ xs. slice_get xs k) so ∙ get_same made k v was there

  off : (n : ℕ) → (n ≡ k → ⊥) → slice_get new n ≡ slice_get made n
  off n differs = ap (λ xs. slice_get xs n) so ∙ get_other made k n v differs

  before : (l : Location ℕ) → node_at l ≡ k → edges_at old l ≡ edges_among k was.items l
  before l at_k = sym (same l) ∙ edges_are made l was (ap (slice_get made) at_k ∙ there) ∙ ap (λ n. edges_among n was.items l) at_k

  after : (l : Location ℕ) → node_at l ≡ k → edges_at new l ≡ edges_among k v.items l
  after l at_k = edges_are new l v (ap (slice_get new) at_k ∙ now) ∙ ap (λ n. edges_among n v.items l) at_k

  others : (l : Location ℕ) → (node_at l ≡ k → ⊥) → edges_at new l ≡ edges_at old l
  others l differs = same_list new made l (off (node_at l) differs) ∙ same l

  pub list_changed : {tells : Edge → Bool} {x : Edge} → ((n : ℕ) (l : Location ℕ) → Lists tells x (edges_among n was.items l) (edges_among n v.items l)) → (l : Location ℕ) → Lists tells x (edges_at old l) (edges_at new l)
  list_changed {tells} {x} lists l = elim (cases_eq (node_at l) k) [
    | inl at_k ↦ subst (λ es. Lists tells x es (edges_at new l)) (sym (before l at_k)) (subst (Lists tells x (edges_among k was.items l)) (sym (after l at_k)) (lists k l))
    | inr differs ↦ lists_same (others l differs)
  ]

  pub list_gained : (x : Edge) (l : Location ℕ) → node_at l ≡ k → Contains (edges_among k v.items l) x → Contains (edges_at new l) x
  list_gained x l at_k c = subst (λ es. Contains es x) (sym (after l at_k)) c

  pub list_stays : (l : Location ℕ) → edges_among k v.items l ≡ edges_among k was.items l
      → edges_at new l ≡ edges_at old l
  list_stays l stays = elim (cases_eq (node_at l) k) [
    | inl at_k ↦ after l at_k ∙ stays ∙ sym (before l at_k)
    | inr other ↦ others l other
  ]

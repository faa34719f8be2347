-- What is looked at of a node by the same entries has one list of edges.
use Rattle.at_evict.proofs.Common.{◌≡◌, ◌⊎◌, inl, inr, ℕ, zero, suc, ◌<◌, ◌+◌, ◌||◌, get_or, List, [], ◌∷◌, Bool, true, false, cond, Option, None, Some, IfSome, Contains, if◌then◌else◌, length, nat_eq, eqb-true, refl, length-set, slice_get, slice_set, swap_remove, IsPermutation, sym, ap, ◌∙◌, subst, arith, get_or_from_slice_get, same_Some, Contains-permutation, IsPermutation-swap_remove, IsPermutation-sym, Contains-cons, Contains-cons_cases, Location, Edge, Readers, edges_in, AreRefolded, AreJoint, HaveSame, Joins, edges_among, stands_for, head_of, get_contains, none_in, get_other, get_same, stayed, slice_get_within, got, along_from, along_to}
use Rattle.at_index.specs.declared.facet.Facet.{Facet}

pub same_none : (rs : List Readers) → HaveSame rs rs
same_none rs = record { kept = λ n l x c. c; from = λ n l x c. c }

pub same_then : {old mid new : List Readers} → HaveSame old mid → HaveSame mid new → HaveSame old new
same_then a b = record { kept = λ n l x c. b.kept n l x (a.kept n l x c); from = λ n l x c. a.from n l x (b.from n l x c) }

pub are_joint : (some more : Readers) (o : Option Facet) → edges_in some.edges ≡ edges_in more.edges
    → IfSome o (λ f. (n : ℕ) (l : Location ℕ) → stands_for n f l ≡ (stands_for n some.facet l || stands_for n more.facet l))
    → IfSome o (λ f. AreJoint some more f)
are_joint some more None same h = tt
are_joint some more (Some f) same h = record { same = same; both = h }

pub joins_at : (rs : List Readers) (before place : ℕ) (f : Facet) (r q : Readers) → before < place → place < length rs → r ≡ get_or rs before r
    → q ≡ get_or rs place q → AreJoint r q f → Joins rs before place f
joins_at rs before place f r q less inside read more joint = record {
  less = less;
  joint = (r, q, got rs before r (omega (arith, less, inside)) ∙ ap Some (sym read), got rs place q inside ∙ ap Some (sym more), joint);
}

-- what stands in a list is what comes to a place, or stood elsewhere
module _ {X : Type 0} where
  set_from : (xs : List X) (k : ℕ) (v x : X) → Contains (slice_set xs k v) x → (v ≡ x) ⊎ Contains xs x
  set_from [] k v x c = inr c
  set_from (y ∷ ys) zero v x c = elim (Contains-cons_cases v x ys c) [ inl same ↦ inl same | inr d ↦ inr (Contains-cons y x ys d) ]
  set_from (y ∷ ys) (suc k) v x c = elim (Contains-cons_cases y x (slice_set ys k v) c) [
    | inl same ↦ inr (subst (Contains (y ∷ ys)) same (head_of y ys))
    | inr d ↦ elim (set_from ys k v x d) [ inl same ↦ inl same | inr e ↦ inr (Contains-cons y x ys e) ]
  ]

  set_to : (xs : List X) (k : ℕ) (v w x : X) → slice_get xs k ≡ Some w → Contains xs x → (w ≡ x) ⊎ Contains (slice_set xs k v) x
  set_to [] k v w x h c = inr c
  set_to (y ∷ ys) zero v w x h c = elim (Contains-cons_cases y x ys c) [
    | inl same ↦ inl (sym (same_Some y w h) ∙ same)
    | inr d ↦ inr (Contains-cons v x ys d)
  ]
  set_to (y ∷ ys) (suc k) v w x h c = elim (Contains-cons_cases y x ys c) [
    | inl same ↦ inr (subst (Contains (y ∷ slice_set ys k v)) same (head_of y (slice_set ys k v)))
    | inr d ↦ elim (set_to ys k v w x h d) [ inl same ↦ inl same | inr e ↦ inr (Contains-cons y x (slice_set ys k v) e) ]
  ]

module _ (es fs : List Edge) (same : es ≡ fs) (x : Edge) where
  in_some : (a b c : Bool) → c ≡ (a || b) → Contains (cond a es []) x → Contains (cond c es []) x
  in_some true b c is d = subst (λ z. Contains (cond z es []) x) (sym is) d
  in_some false b c is d = absurd (none_in x d)

  in_more : (a b c : Bool) → c ≡ (a || b) → Contains (cond b fs []) x → Contains (cond c es []) x
  in_more true true c is d = subst (λ z. Contains (cond z es []) x) (sym is) (subst (λ zs. Contains zs x) (sym same) d)
  in_more false true c is d = subst (λ z. Contains (cond z es []) x) (sym is) (subst (λ zs. Contains zs x) (sym same) d)
  in_more true false c is d = absurd (none_in x d)
  in_more false false c is d = absurd (none_in x d)

  in_either : (a b c : Bool) → c ≡ (a || b) → Contains (cond c es []) x → Contains (cond a es []) x ⊎ Contains (cond b fs []) x
  in_either true b c is d = inl (subst (λ z. Contains (cond z es []) x) is d)
  in_either false true c is d = inr (subst (λ zs. Contains zs x) same (subst (λ z. Contains (cond z es []) x) is d))
  in_either false false c is d = absurd (none_in x (subst (λ z. Contains (cond z es []) x) is d))

-- the edges of one facet
abbrev edges_of : ℕ → Location ℕ → Readers → List Edge
edges_of n l r = if stands_for n r.facet l then edges_in r.edges else []

module _ (rs : List Readers) (before place : ℕ) (f : Facet) (r q : Readers) (less : before < place) (here : slice_get rs before ≡ Some r) (there : slice_get rs place ≡ Some q) (joint : AreJoint r q f) where
  abbrev made : Readers
  made = record { facet = f; edges = r.edges }

  abbrev between : List Readers
  between = slice_set rs before made

  abbrev after : List Readers
  after = swap_remove between place q

  inside : place < length between
  inside = subst (λ n. place < n) (sym (length-set rs before made)) (slice_get_within rs place q there)

  taken : slice_get between place ≡ Some q
  taken = get_other rs before place made (λ same. absurd (omega (arith, less, same))) ∙ there

  shuffled : IsPermutation between (q ∷ after)
  shuffled = IsPermutation-swap_remove between place q inside (sym (get_or_from_slice_get between place q q taken))

  stays : Contains after made
  stays =
      let all = inside in
      get_contains after before made (stayed between place q inside before (omega (arith, less, all)) (λ same. absurd (omega (arith, less, same)))
      ∙ get_same rs before made r here)

  module _ (n : ℕ) (l : Location ℕ) (x : Edge) where
    now_here : Contains (edges_of n l made) x → Contains (edges_among n after l) x
    now_here c = along_to (edges_of n l) after made x stays c

    from_some : Contains (edges_of n l r) x → Contains (edges_of n l made) x
    from_some c = in_some (edges_in r.edges) (edges_in q.edges) joint.same x (stands_for n r.facet l) (stands_for n q.facet l) (stands_for n f l) (joint.both n l) c

    from_more : Contains (edges_of n l q) x → Contains (edges_of n l made) x
    from_more c = in_more (edges_in r.edges) (edges_in q.edges) joint.same x (stands_for n r.facet l) (stands_for n q.facet l) (stands_for n f l) (joint.both n l) c

    one_kept : Contains (edges_among n rs l) x → Contains (edges_among n after l) x
    one_kept c =
        let (y, d, e) = along_from (edges_of n l) rs x c in
        elim (set_to rs before made r y here d) [
          | inl same ↦ now_here (from_some (subst (λ z. Contains (edges_of n l z) x) (sym same) e))
          | inr g ↦ elim (Contains-cons_cases q y after (Contains-permutation between (q ∷ after) y shuffled g)) [
            | inl same ↦ now_here (from_more (subst (λ z. Contains (edges_of n l z) x) (sym same) e))
            | inr k ↦ along_to (edges_of n l) after y x k e
          ]
        ]

    one_from : Contains (edges_among n after l) x → Contains (edges_among n rs l) x
    one_from c =
        let (y, d, e) = along_from (edges_of n l) after x c in
        elim (set_from rs before made y (Contains-permutation (q ∷ after) between y (IsPermutation-sym between (q ∷ after) shuffled) (Contains-cons q y after d))) [
          | inl same ↦ elim (in_either (edges_in r.edges) (edges_in q.edges) joint.same x (stands_for n r.facet l) (stands_for n q.facet l) (stands_for n f l) (joint.both n l) (subst (λ z. Contains (edges_of n l z) x) (sym same) e)) [
            | inl g ↦ along_to (edges_of n l) rs r x (get_contains rs before r here) g
            | inr g ↦ along_to (edges_of n l) rs q x (get_contains rs place q there) g
          ]
          | inr g ↦ along_to (edges_of n l) rs y x g e
        ]

  have_one : HaveSame rs after
  have_one = record { kept = one_kept; from = one_from }

-- one gets the facet of both, and the other goes
pub one_list : (rs mid new : List Readers) (before place : ℕ) (f : Facet) (r q : Readers) → Joins rs before place f → r ≡ get_or rs before r
    → q ≡ get_or mid place q → new ≡ swap_remove mid place q → mid ≡ slice_set rs before (record { facet = f; edges = r.edges }) → HaveSame rs new
one_list rs mid new before place f r q joins read took is set =
    let (v, w, here, there, joint) = joins.joint in
    let same : r ≡ v = read ∙ get_or_from_slice_get rs before v r here in
    let made : Readers = record { facet = f; edges = v.edges } in
    let was : mid ≡ slice_set rs before made = set ∙ ap (λ (z : Readers). slice_set rs before (record { facet = f; edges = z.edges })) same in
    let other : q ≡ w = took ∙ ap (λ (zs : List Readers). get_or zs place q) was ∙ get_or_from_slice_get (slice_set rs before made) place w q (taken rs before place f v w joins.less here there joint) in
    let whole : new ≡ swap_remove (slice_set rs before made) place w = is ∙ ap (λ (zs : List Readers). swap_remove zs place q) was ∙ ap (swap_remove (slice_set rs before made) place) other in
    subst (HaveSame rs) (sym whole) (have_one rs before place f v w joins.less here there joint)

no_list : (es : List Edge) → nat_eq (length es) 0 ≡ true → es ≡ []
no_list [] h = refl
no_list (x ∷ xs) h = absurd (let none = eqb-true (length (x ∷ xs)) 0 h in omega (arith, none))

none_of : (b : Bool) (es : List Edge) (x : Edge) → es ≡ [] → Contains (cond b es []) x → ⊥
none_of true es x is c = none_in x (subst (λ zs. Contains zs x) is c)
none_of false es x is c = none_in x c

-- what has no edge goes
pub left_out : (rs new : List Readers) (place : ℕ) (q r : Readers) → place < length rs → q ≡ get_or rs place q → r ≡ get_or rs place r
    → nat_eq (length (edges_in r.edges)) 0 ≡ true → new ≡ swap_remove rs place q → HaveSame rs new
left_out rs new place q r inside read other none is = subst (HaveSame rs) (sym is) (record {
  kept = λ n l x c.
      let (y, d, e) = along_from (edges_of n l) rs x c in
      elim (Contains-cons_cases q y after (Contains-permutation rs (q ∷ after) y shuffled d)) [
        | inl same ↦ absurd (none_of (stands_for n q.facet l) (edges_in q.edges) x (no_list (edges_in q.edges) empty)
            (subst (λ z. Contains (edges_of n l z) x) (sym same) e))
        | inr k ↦ along_to (edges_of n l) after y x k e
      ];
  from = λ n l x c.
      let (y, d, e) = along_from (edges_of n l) after x c in
      along_to (edges_of n l) rs y x
      (Contains-permutation (q ∷ after) rs y (IsPermutation-sym rs (q ∷ after) shuffled) (Contains-cons q y after d)) e;
})
  where
    after : List Readers
    after = swap_remove rs place q

    shuffled : IsPermutation rs (q ∷ after)
    shuffled = IsPermutation-swap_remove rs place q inside read

    same : r ≡ q
    same = same_Some r q (sym (got rs place r inside ∙ ap Some (sym other)) ∙ got rs place q inside ∙ ap Some (sym read))

    empty : nat_eq (length (edges_in q.edges)) 0 ≡ true
    empty = subst (λ (z : Readers). nat_eq (length (edges_in z.edges)) 0 ≡ true) same none

pub one_fewer : (rs mid new : List Readers) (before : ℕ) (v : Readers) → length new + 1 ≡ length mid → mid ≡ slice_set rs before v → length new < length rs
one_fewer rs mid new before v goes set =
    let as_many : length mid ≡ length rs = ap length set ∙ length-set rs before v in
    omega (arith, goes, as_many)

-- what is rewritten, and has the same then, is rewritten
pub refolded_same : (there : Edge → Bool) (into : ℕ → List ℕ) (old mid new : List Readers) → AreRefolded there into old mid → HaveSame mid new → AreRefolded there into old new
refolded_same there into old mid new folded same n l =
    let lists = folded n l in
    record {
      has = λ y u is. same.kept n l y (lists.has y u is);
      from = λ y c. lists.from y (same.from n l y c);
    }

-- What is gathered for a list, and the list that is made of it.
use Rattle.at_evict.proofs.Common.{◌≡◌, ◌⊎◌, inl, inr, ℕ, zero, suc, List, [], ◌∷◌, ◌++◌, Bool, true, false, true≢false, nat_eq, Some, Contains, length, replicate, slice_get, slice_set, take, refl, sym, ap, ◌∙◌, subst, arith, eqb-true, list_any, eq-eqb, none-some, same_Some, Contains-append_cases, Contains-append_left, Contains-append_right, Contains-cons_cases, Edge, AreAlone, AreLone, Gathered, HasUser, Refolded, Stays, told_of, Info, Memory, is_current, any_of, some_of, head_of, none_in}

-- a number is one of these, by a test and back
pub is_one : (xs : List ℕ) (x : ℕ) → list_any (nat_eq x) xs ≡ true → Contains xs x
is_one xs x h = let (y, c, is) = some_of (nat_eq x) xs h in subst (Contains xs) (sym (eqb-true x y is)) c

pub one_is : (xs : List ℕ) (x : ℕ) → Contains xs x → list_any (nat_eq x) xs ≡ true
one_is xs x c = any_of (nat_eq x) xs x c (eq-eqb x x refl)

pub is_none : (xs : List ℕ) (x : ℕ) → list_any (nat_eq x) xs ≡ false → Contains xs x → ⊥
is_none xs x h c = true≢false (sym (one_is xs x c) ∙ h)

pub only_one : {X : Type 0} (x y : X) → Contains (x ∷ []) y → y ≡ x
only_one x y c = elim (Contains-cons_cases x y [] c) [ inl same ↦ sym same | inr none ↦ absurd (none_in y none) ]

-- two that tell of an entry in the same slot are one
pub told_same : (m : Memory) (x y : Edge) → is_current m x ≡ true → is_current m y ≡ true → x.slot ≡ y.slot → x ≡ y
told_same m x y a b same =
    let (e, there, of_x) = told_of m x a in
    let (f, found, of_y) = told_of m y b in
    let one : e ≡ f = same_Some e f (sym there ∙ ap m same ∙ found) in
    let stamps : x.stamp ≡ y.stamp = sym of_x ∙ ap (λ (i : Info). i.stamp) one ∙ of_y in
    λ i. record { slot = same i; stamp = stamps i }

-- what stands at each place is so where a number is that is written at one
pub each_set : (P : ℕ → ℕ → Type 0) (xs : List ℕ) (k v s x : ℕ) → P k v → (slice_get xs s ≡ Some x → P s x) → slice_get (slice_set xs k v) s ≡ Some x → P s x
each_set P [] k v s x here old is = absurd (none-some x is)
each_set P (y ∷ ys) zero v zero x here old is = subst (P zero) (same_Some v x is) here
each_set P (y ∷ ys) zero v (suc s) x here old is = old is
each_set P (y ∷ ys) (suc k) v zero x here old is = old is
each_set P (y ∷ ys) (suc k) v (suc s) x here old is = each_set (λ i n. P (suc i) n) ys k v s x here old is

-- each of these but those that are left is alone
abbrev pub AreAloneBut : (there : Edge → Bool) → (into : ℕ → List ℕ) → (all left : List Edge) → Type 0
AreAloneBut there into all left = (x : Edge) → Contains all x → ((there x ≡ true) × (into x.slot ≡ x.slot ∷ [])) ⊎ Contains left x

module _ (there : Edge → Bool) (into : ℕ → List ℕ) where
  pub user_of : (xs ys : List Edge) (r : ℕ) → ((x : Edge) → Contains xs x → Contains ys x) → HasUser there into xs r → HasUser there into ys r
  user_of xs ys r all (x, c, is, d) = (x, all x c, is, d)

  pub gathered_none : (slots : List ℕ) → Gathered there into [] slots slots
  gathered_none slots = record { kept = λ r c. c; has = λ x r c is d. absurd (none_in x c); from = λ r c. inl c }

  pub gathered_then : (xs ys : List Edge) {old mid new : List ℕ} → Gathered there into xs old mid → Gathered there into ys mid new → Gathered there into (xs ++ ys) old new
  gathered_then xs ys a b = record {
    kept = λ r c. b.kept r (a.kept r c);
    has = λ x r c is d. elim (Contains-append_cases xs ys x c) [ inl e ↦ b.kept r (a.has x r e is d) | inr e ↦ b.has x r e is d ];
    from = λ r c. elim (b.from r c) [
      | inl d ↦ elim (a.from r d) [ inl e ↦ inl e | inr u ↦ inr (user_of xs (xs ++ ys) r (λ x k. Contains-append_left xs ys x k) u) ]
      | inr u ↦ inr (user_of ys (xs ++ ys) r (λ x k. Contains-append_right xs ys x k) u)
    ];
  }

  pub gathered_stale : (x : Edge) (slots : List ℕ) → there x ≡ false → Gathered there into (x ∷ []) slots slots
  gathered_stale x slots stale = record {
    kept = λ r c. c;
    has = λ y r c is d. absurd (true≢false (sym is ∙ ap there (only_one x y c) ∙ stale));
    from = λ r c. inl c;
  }

  pub gathered_one : (x : Edge) (old new : List ℕ) → there x ≡ true → new ≡ old ++ into x.slot → Gathered there into (x ∷ []) old new
  gathered_one x old new is so = record {
    kept = λ r c. subst (λ rs. Contains rs r) (sym so) (Contains-append_left old (into x.slot) r c);
    has = λ y r c k d. subst (λ rs. Contains rs r) (sym so)
        (Contains-append_right old (into x.slot) r (subst (λ (z : Edge). Contains (into z.slot) r) (only_one x y c) d));
    from = λ r c. elim (Contains-append_cases old (into x.slot) r (subst (λ rs. Contains rs r) so c)) [
      | inl d ↦ inl d
      | inr d ↦ inr (x, head_of x [], is, d)
    ];
  }

  pub alone_none : AreAlone there into []
  alone_none x c = absurd (none_in x c)

  pub alone_then : (xs ys : List Edge) → AreAlone there into xs → AreAlone there into ys → AreAlone there into (xs ++ ys)
  alone_then xs ys a b x c = elim (Contains-append_cases xs ys x c) [ inl d ↦ a x d | inr d ↦ b x d ]

  pub alone_more : (all left rest : List Edge) (x : Edge) → left ≡ x ∷ rest → (there x ≡ true) × (into x.slot ≡ x.slot ∷ [])
      → AreAloneBut there into all left → AreAloneBut there into all rest
  alone_more all left rest x is only before y c = elim (before y c) [
    | inl done ↦ inl done
    | inr more ↦ elim (Contains-cons_cases x y rest (subst (λ es. Contains es y) is more)) [
      | inl same ↦ inl (subst (λ (z : Edge). (there z ≡ true) × (into z.slot ≡ z.slot ∷ [])) same only)
      | inr later ↦ inr later
    ]
  ]

  pub alone_end : (all left : List Edge) → left ≡ [] → AreAloneBut there into all left → AreAlone there into all
  alone_end all left none before x c = elim (before x c) [ inl done ↦ done | inr more ↦ absurd (none_in x (subst (λ es. Contains es x) none more)) ]

  -- an edge with the number that stands at its slot is alone
  pub lone_has : (none : ℕ) (numbers : List ℕ) (x : Edge) (number : ℕ) → AreLone there into none numbers → slice_get numbers x.slot ≡ Some number
      → (x.stamp ≡ none → ⊥) → nat_eq number x.stamp ≡ true → (there x ≡ true) × (into x.slot ≡ x.slot ∷ [])
  lone_has none numbers x number lone is differs same =
      let number_is = eqb-true number x.stamp same in
      let (told, only) = lone x.slot number is (λ nothing. differs (sym number_is ∙ nothing)) in
      (subst (λ n. there (record { slot = x.slot; stamp = n }) ≡ true) number_is told, only)

  -- where another number stands than that for none, what is in the slot stays
  pub lone_stays : (none : ℕ) (numbers : List ℕ) (slot number : ℕ) → AreLone there into none numbers → slice_get numbers slot ≡ Some number
      → nat_eq number none ≡ false → Stays into slot
  lone_stays none numbers slot number lone is differs =
      let (told, only) = lone slot number is (λ nothing. true≢false (sym (eq-eqb number none nothing) ∙ differs)) in
      subst (λ xs. Contains xs slot) (sym only) (head_of slot [])

  -- numbers that stand for no entries
  pub lone_fill : (none count left : ℕ) (old new : List ℕ) → old ≡ [] → new ≡ take count old ++ replicate left none → AreLone there into none new
  lone_fill none count left old new empty is s x found differs = absurd (differs (filled left s (ap (λ (xs : List ℕ). slice_get xs s) (sym whole) ∙ found)))
    where
      nothing : (n : ℕ) (xs : List ℕ) → xs ≡ [] → take n xs ≡ []
      nothing zero xs h = refl
      nothing (suc n) [] h = refl
      nothing (suc n) (y ∷ ys) h = absurd (let long = ap length h in omega (arith, long))

      whole : new ≡ replicate left none
      whole = is ∙ ap (λ (xs : List ℕ). xs ++ replicate left none) (nothing count old empty)

      filled : (n k : ℕ) → slice_get (replicate n none) k ≡ Some x → x ≡ none
      filled zero k h = absurd (none-some x h)
      filled (suc n) zero h = sym (same_Some none x h)
      filled (suc n) (suc k) h = filled n k h

-- a list whose edges all tell of such as stay is as it was
pub refolded_alone : (m : Memory) (into : ℕ → List ℕ) (xs : List Edge) → AreAlone (is_current m) into xs → Refolded (is_current m) into xs xs
refolded_alone m into xs alone = record {
  has = λ y u k.
      let (x, c, is, d) = u in
      let same : y.slot ≡ x.slot = only_one x.slot y.slot (subst (λ rs. Contains rs y.slot) ((alone x c).1) d) in
      subst (Contains xs) (told_same m x y is k (sym same)) c;
  from = λ y c. let (is, only) = alone y c in (is, (y, c, is, subst (λ rs. Contains rs y.slot) (sym only) (head_of y.slot [])));
}

-- The links of entries into which others are folded, and the memory that has them.
use Rattle.at_evict.proofs.Common.{◌≡◌, ◌⊎◌, inl, inr, ℕ, zero, suc, ◌+◌, List, [], ◌∷◌, ◌++◌, Option, None, Some, Contains, slice_get, slice_set, refl, sym, ap, ◌∙◌, subst, cases_eq, none-some, same_Some, Contains-append_cases, Contains-append_left, Contains-append_right, Contains-push_cases, SmallVec, HasLinked, Linked, LinkedTo, Stays, listed_at, slots_at, Info, Memory, head_of, none_in, get_other, get_same}
use Rattle.at_evict.proofs.of_folding.Gathering.{only_one}

abbrev pub list_of : Option (SmallVec ℕ) → List ℕ
list_of o = elim o [ None ↦ [] | Some v ↦ v.items ]

module _ {into : ℕ → List ℕ} where
  pub linked_none : (xs : List ℕ) → Linked into [] xs xs
  linked_none xs = record { kept = λ p c. c; has = λ p c s. absurd (none_in p c); from = λ p c. inl c }

  pub linked_then : (xs ys : List ℕ) {old mid new : List ℕ} → Linked into xs old mid → Linked into ys mid new → Linked into (xs ++ ys) old new
  linked_then xs ys a b = record {
    kept = λ p c. b.kept p (a.kept p c);
    has = λ p c s. elim (Contains-append_cases xs ys p c) [ inl d ↦ b.kept p (a.has p d s) | inr d ↦ b.has p d s ];
    from = λ p c. elim (b.from p c) [
      | inl d ↦ elim (a.from p d) [ inl e ↦ inl e | inr (s, e) ↦ inr (s, Contains-append_left xs ys p e) ]
      | inr (s, e) ↦ inr (s, Contains-append_right xs ys p e)
    ];
  }

  pub linked_goes : (p : ℕ) (xs : List ℕ) → (Stays into p → ⊥) → Linked into (p ∷ []) xs xs
  linked_goes p xs goes = record {
    kept = λ q c. c;
    has = λ q c s. absurd (goes (subst (Stays into) (only_one p q c) s));
    from = λ q c. inl c;
  }

  pub linked_there : (p : ℕ) (xs : List ℕ) → Contains xs p → Linked into (p ∷ []) xs xs
  linked_there p xs there = record {
    kept = λ q c. c;
    has = λ q c s. subst (Contains xs) (sym (only_one p q c)) there;
    from = λ q c. inl c;
  }

  pub linked_push : (p : ℕ) (old new : List ℕ) → Stays into p → new ≡ old ++ p ∷ [] → Linked into (p ∷ []) old new
  linked_push p old new stays is = record {
    kept = λ q c. subst (λ xs. Contains xs q) (sym is) (Contains-append_left old (p ∷ []) q c);
    has = λ q c s. subst (λ xs. Contains xs q) (sym is) (Contains-append_right old (p ∷ []) q c);
    from = λ q c. elim (Contains-push_cases old p q (subst (λ xs. Contains xs q) is c)) [
      | inl d ↦ inl d
      | inr same ↦ inr (subst (Stays into) same stays, subst (Contains (p ∷ [])) same (head_of p []))
    ];
  }

  pub to_none : (links : List ℕ) (f : ℕ → List ℕ) → LinkedTo into [] links f f
  to_none links f = record { kept = λ r p c. c; has = λ r p c d s. absurd (none_in r c); from = λ r p c. inl c }

  pub to_then : (xs ys : List ℕ) {links : List ℕ} {f g h : ℕ → List ℕ} → LinkedTo into xs links f g → LinkedTo into ys links g h → LinkedTo into (xs ++ ys) links f h
  to_then xs ys a b = record {
    kept = λ r p c. b.kept r p (a.kept r p c);
    has = λ r p c d s. elim (Contains-append_cases xs ys r c) [ inl e ↦ b.kept r p (a.has r p e d s) | inr e ↦ b.has r p e d s ];
    from = λ r p c. elim (b.from r p c) [
      | inl d ↦ elim (a.from r p d) [ inl e ↦ inl e | inr (e, s, k) ↦ inr (Contains-append_left xs ys r e, s, k) ]
      | inr (e, s, k) ↦ inr (Contains-append_right xs ys r e, s, k)
    ];
  }

  -- the list of one is another
  pub to_one : (old new : List (SmallVec ℕ)) (r : ℕ) (links : List ℕ) (was now : SmallVec ℕ) → slice_get old r ≡ Some was → new ≡ slice_set old r now
      → Linked into links was.items now.items → LinkedTo into (r ∷ []) links (slots_at old) (slots_at new)
  to_one old new r links was now there is a = record {
    kept = λ k p c. elim (cases_eq k r) [
      | inl same ↦ subst (λ xs. Contains xs p) (sym (at_new k same)) (a.kept p (subst (λ xs. Contains xs p) (at_old k same) c))
      | inr differs ↦ subst (λ xs. Contains xs p) (sym (off k differs)) c
    ];
    has = λ k p c d s. subst (λ xs. Contains xs p) (sym (at_new k (only_one r k c))) (a.has p d s);
    from = λ k p c. elim (cases_eq k r) [
      | inl same ↦ elim (a.from p (subst (λ xs. Contains xs p) (at_new k same) c)) [
        | inl d ↦ inl (subst (λ xs. Contains xs p) (sym (at_old k same)) d)
        | inr (s, d) ↦ inr (subst (Contains (r ∷ [])) (sym same) (head_of r []), s, d)
      ]
      | inr differs ↦ inl (subst (λ xs. Contains xs p) (off k differs) c)
    ];
  }
    where
      at_new : (k : ℕ) → k ≡ r → slots_at new k ≡ now.items
      at_new k same = ap list_of (ap (slice_get new) same ∙ ap (λ xs. slice_get xs r) is ∙ get_same old r now was there)

      at_old : (k : ℕ) → k ≡ r → slots_at old k ≡ was.items
      at_old k same = ap list_of (ap (slice_get old) same ∙ there)

      off : (k : ℕ) → (k ≡ r → ⊥) → slots_at new k ≡ slots_at old k
      off k differs = ap list_of (ap (λ xs. slice_get xs k) is ∙ get_other old r k now differs)

-- lists by places: empty ones, and another one at that of the target
pub listed_none : (places : ℕ → Option ℕ) (lists : List (SmallVec ℕ)) → ((p : ℕ) → slots_at lists p ≡ []) → (s : ℕ) → listed_at places lists s ≡ []
listed_none places lists none s = by (places s)
  where
    by : (o : Option ℕ) → (elim o as (λ _. List ℕ) [ None ↦ [] | Some p ↦ slots_at lists p ]) ≡ []
    by None = refl
    by (Some p) = none p

pub listed_place : (places : ℕ → Option ℕ) (lists : List (SmallVec ℕ)) (s p : ℕ) → places s ≡ Some p → listed_at places lists s ≡ slots_at lists p
listed_place places lists s p is = ap (λ (o : Option ℕ). elim o as (λ _. List ℕ) [ None ↦ [] | Some q ↦ slots_at lists q ]) is

pub listed_to : {into : ℕ → List ℕ} (places : ℕ → Option ℕ) (old new : List (SmallVec ℕ)) (r p : ℕ) (links : List ℕ) → places r ≡ Some p
    → ((k : ℕ) → places k ≡ Some p → k ≡ r) → LinkedTo into (p ∷ []) links (slots_at old) (slots_at new)
    → LinkedTo into (r ∷ []) links (listed_at places old) (listed_at places new)
listed_to {into} places old new r p links is one a = record {
  kept = λ k x c. kept (places k) refl x c;
  has = λ k x c d s.
      let same : k ≡ r = only_one r k c in
      subst (λ xs. Contains xs x) (sym (ap (listed_at places new) same ∙ listed_place places new r p is)) (a.has p x (head_of p []) d s);
  from = λ k x c. from k (places k) refl x c;
}
  where
    kept : (o : Option ℕ) → {k : ℕ} → places k ≡ o → (x : ℕ) → Contains (listed_at places old k) x → Contains (listed_at places new k) x
    kept None {k} none x c = absurd (none_in x (subst (λ xs. Contains xs x) (ap (λ (o : Option ℕ). elim o as (λ _. List ℕ) [ None ↦ [] | Some q ↦ slots_at old q ]) none) c))
    kept (Some q) {k} at x c =
        subst (λ xs. Contains xs x) (sym (listed_place places new k q at)) (a.kept q x (subst (λ xs. Contains xs x) (listed_place places old k q at) c))

    from : (k : ℕ) (o : Option ℕ) → places k ≡ o → (x : ℕ) → Contains (listed_at places new k) x
        → Contains (listed_at places old k) x ⊎ (Contains (r ∷ []) k × Stays into x × Contains links x)
    from k None none x c = absurd (none_in x (subst (λ xs. Contains xs x) (ap (λ (o : Option ℕ). elim o as (λ _. List ℕ) [ None ↦ [] | Some q ↦ slots_at new q ]) none) c))
    from k (Some q) at x c = elim (a.from q x (subst (λ xs. Contains xs x) (listed_place places new k q at) c)) [
      | inl d ↦ inl (subst (λ xs. Contains xs x) (sym (listed_place places old k q at)) d)
      | inr (e, s, d) ↦
          let same : k ≡ r = one k (at ∙ ap Some (only_one p q e)) in
          inr (subst (Contains (r ∷ [])) (sym same) (head_of r []), s, d)
    ]

-- one empty list more
pub none_pushed : (xs : List (SmallVec ℕ)) (new : List (SmallVec ℕ)) (v : SmallVec ℕ) → new ≡ xs ++ v ∷ [] → v.items ≡ [] → ((r : ℕ) → slots_at xs r ≡ []) → (r : ℕ) → slots_at new r ≡ []
none_pushed xs new v is empty before r = ap (λ ys. slots_at ys r) is ∙ by xs before r
  where
    by : (ys : List (SmallVec ℕ)) → ((r : ℕ) → slots_at ys r ≡ []) → (r : ℕ) → slots_at (ys ++ v ∷ []) r ≡ []
    by [] h zero = empty
    by [] h (suc r) = refl
    by (y ∷ ys) h zero = h zero
    by (y ∷ ys) h (suc r) = by ys (λ k. h (suc k)) r

module _ {m : Memory} {into : ℕ → List ℕ} where
  pub from_entry : (s : ℕ) (e : Info) {old new : ℕ → List ℕ} → m s ≡ Some e → LinkedTo into (into s) e.links old new → HasLinked m into s old new
  from_entry s e there a = record {
    kept = a.kept;
    has = λ f found r p c differs d k. a.has r p c (subst (λ (i : Info). Contains i.links p) (same_Some f e (sym found ∙ there)) d) k;
    from = λ r p c. elim (a.from r p c) [ inl d ↦ inl d | inr (d, k, u) ↦ inr (e, there, d, k, u) ];
  }

  pub from_nothing : (s : ℕ) (old : ℕ → List ℕ) → m s ≡ None → HasLinked m into s old old
  from_nothing s old none = record {
    kept = λ r p c. c;
    has = λ e there r p c differs d k. absurd (none-some e (sym none ∙ there));
    from = λ r p c. inl c;
  }

  pub from_itself : (s : ℕ) (old : ℕ → List ℕ) → into s ≡ s ∷ [] → HasLinked m into s old old
  from_itself s old only = record {
    kept = λ r p c. c;
    has = λ e there r p c differs d k. absurd (differs (only_one s r (subst (λ rs. Contains rs r) only c)));
    from = λ r p c. inl c;
  }

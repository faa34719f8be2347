-- Elements of lists: one that is among them, and that no two of them are equal.
use Rattle.std.proofs.Common.{◌≡◌, ◌⊎◌, suc, ◌+◌, ◌≤◌, List, [], ◌∷◌, ◌++◌, length, inl, inr, refl, sym, ap, ◌∙◌, subst, arith}
use Rattle.at_model.specs.Meaning.{Among, Distinct}
use Rattle.at_model.proofs.Listed.{among_left, among_right}

module _ {A : Type 0} where
  pub among_last : (xs : List A) (x : A) → Among x (xs ++ x ∷ [])
  among_last xs x = among_right x xs (x ∷ []) (inl refl)

  pub among_either : (xs ys : List A) (x : A) → Among x (xs ++ ys) → Among x xs ⊎ Among x ys
  among_either [] ys x h = inr h
  among_either (z ∷ zs) ys x (inl e) = inl (inl e)
  among_either (z ∷ zs) ys x (inr h) = elim (among_either zs ys x h) [ inl a ↦ inl (inr a) | inr b ↦ inr b ]

  pub among_push : (xs : List A) (x y : A) → Among x (xs ++ y ∷ []) → Among x xs ⊎ (x ≡ y)
  among_push xs x y h = elim (among_either xs (y ∷ []) x h) [ inl a ↦ inl a | inr (inl e) ↦ inr e | inr (inr n) ↦ absurd n ]

  pub distinct_between : (xs : List A) (x : A) (ys : List A) → Distinct (xs ++ ys) → (Among x (xs ++ ys) → ⊥) → Distinct (xs ++ x ∷ ys)
  distinct_between [] x ys d n = (n, d)
  distinct_between (z ∷ zs) x ys d n = (
    λ h. elim (among_either zs (x ∷ ys) z h) [
      | inl a ↦ d.0 (among_left z zs ys a)
      | inr (inl e) ↦ n (inl (sym e))
      | inr (inr b) ↦ d.0 (among_right z zs ys b)
    ],
    distinct_between zs x ys d.1 (λ h. n (inr h)),
  )

  pub distinct_push : (xs : List A) (x : A) → Distinct xs → (Among x xs → ⊥) → Distinct (xs ++ x ∷ [])
  distinct_push [] x d n = (λ h. h, tt)
  distinct_push (y ∷ ys) x d n = (λ h. elim (among_push ys y x h) [ inl a ↦ d.0 a | inr e ↦ n (inl (sym e)) ], distinct_push ys x d.1 (λ h. n (inr h)))

  pub distinct_pop : (xs : List A) (x : A) → Distinct (xs ++ x ∷ []) → Distinct xs × (Among x xs → ⊥)
  distinct_pop [] x d = (tt, λ h. h)
  distinct_pop (y ∷ ys) x d =
      let r = distinct_pop ys x d.1 in
      ((λ h. d.0 (among_left y ys (x ∷ []) h), r.0), λ h. elim h [ inl e ↦ d.0 (subst (λ z. Among z (ys ++ x ∷ [])) e (among_last ys x)) | inr a ↦ r.1 a ])

  pub distinct_both : (xs ys : List A) → Distinct xs → Distinct ys → ((x : A) → Among x xs → Among x ys → ⊥) → Distinct (xs ++ ys)
  distinct_both [] ys d e n = e
  distinct_both (x ∷ xs) ys d e n =
      (λ h. elim (among_either xs ys x h) [ inl a ↦ d.0 a | inr b ↦ n x (inl refl) b ], distinct_both xs ys d.1 e (λ z a. n z (inr a)))

  pub length_both : (xs ys : List A) → length (xs ++ ys) ≡ length xs + length ys
  length_both [] ys = omega arith
  length_both (x ∷ xs) ys = let e = length_both xs ys in omega (arith, e)

  -- a list without one of its elements
  without : (x : A) (ys : List A) → Among x ys → (zs : List A) × (length ys ≡ suc (length zs)) × ((a : A) → Among a ys → (a ≡ x) ⊎ Among a zs)
  without x [] h = absurd h
  without x (y ∷ ys) (inl same) = (ys, refl, λ a g. elim g [ inl e ↦ inl (e ∙ sym same) | inr m ↦ inr m ])
  without x (y ∷ ys) (inr h) =
      let (zs, size, others) = without x ys h in
      (y ∷ zs, ap suc size, λ a g. elim g [ inl e ↦ inr (inl e) | inr m ↦ elim (others a m) [ inl e ↦ inl e | inr k ↦ inr (inr k) ] ])

  -- distinct elements of a list are no more than it has
  pub no_more : (xs ys : List A) → Distinct xs → ((a : A) → Among a xs → Among a ys) → length xs ≤ length ys
  no_more [] ys d h = omega arith
  no_more (x ∷ xs) ys d h =
      let (zs, size, others) = without x ys (h x (inl refl)) in
      let fewer = no_more xs zs d.1 (λ a m. elim (others a (h a (inr m))) [ inl e ↦ absurd (d.0 (subst (λ z. Among z xs) e m)) | inr k ↦ k ]) in
      omega (arith, size, fewer)

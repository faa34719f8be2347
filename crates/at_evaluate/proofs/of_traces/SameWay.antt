-- An evaluation goes the same way where what it looks at and takes is the same; and it comes to what it took next,
-- once that before
-- it holds.
use Rattle.std.proofs.Common.{◌≡◌, ℕ, zero, suc, Bool, List, [], ◌∷◌, ◌++◌, None, ◌⊎◌, inl, inr, refl, sym, ◌∙◌, subst}
use Rattle.at_model.specs.Run.{Value, Location, Run, Instance, Contents, Known}
use Rattle.at_model.specs.Meaning.{Equations, Reaches, Among}
use Rattle.at_model.specs.of_fixpoints.Fixpoints.{HasValue}
use Rattle.at_model.specs.of_fixpoints.Formulas.{Forms}
use Rattle.at_model.specs.Nested.{Passes, gives, looks, told, Tells, Evaluates, IsGround}
use Rattle.at_model.proofs.Reached.{front_among, back_among}
use Rattle.at_model.proofs.of_nesting.Nesting.{reaches_own, tells_hold}
use Rattle.at_evaluate.specs.Led.{DemandsOn, stays, goes}

-- the same stands at each of the locations
abbrev pub AreSame : {N : Type 0} → (look later : Contents N) → List (Location N) → Type 0
AreSame {N} look later ls = (l : Location N) → Among l ls → later l ≡ look l

-- the same is known of each of the instances
abbrev pub AreAlike : {N : Type 0} → (known knows : Known N) → List (Instance N) → Type 0
AreAlike {N} known knows us = (u : Instance N) → Among u us → knows u ≡ known u

-- what a demand may be told, with what was looked at and taken for it
abbrev pub Telling : Type 0 → Type 1
Telling N = Instance N → Value N → List (Location N) → List (Instance N) → Type 0

module _ {N : Type 0} (look later : Contents N) (known knows : Known N) where
  -- what is told over the one is told over the other, where what was looked at and taken is the same
  abbrev SameTold : (tells also : Telling N) → Type 0
  SameTold tells also = (j : Instance N) (v : Value N) (ls : List (Location N)) (us : List (Instance N)) →
      tells j v ls us → AreSame look later ls → AreAlike known knows us → also j v ls us

  passes_same : {A : Type 0} (tells also : Telling N) → SameTold tells also → (r : Run N A) (a : A)
      (ls : List (Location N)) (us : List (Instance N)) → Passes look tells r a ls us → AreSame look later ls →
      AreAlike known knows us → Passes later also r a ls us
  passes_same tells also f r a ls us (gives _) same alike = gives a
  passes_same tells also f r a ls us (looks l k _ ls' _ p) same alike =
      let rest = passes_same tells also f (k (look l)) a ls' us p (λ m h. same m (inr h)) alike in
      looks l k a ls' us (subst (λ c. Passes later also (k c) a ls' us) (sym (same l (inl refl))) rest)
  passes_same tells also f r a ls us (told j k v _ l1 l2 u1 u2 t p) same alike =
      let first = f j v l1 u1 t (λ m h. same m (front_among m l1 l2 h)) (λ m h. alike m (front_among m u1 u2 h)) in
      told j k v a l1 l2 u1 u2 first (passes_same tells also f (k v) a l2 u2 p
      (λ m h. same m (back_among m l1 l2 h)) (λ m h. alike m (back_among m u1 u2 h)))

  module _ (equation : Equations N) (inner : Instance N → Bool) where
    pub tells_same : (n : ℕ) → SameTold (Tells look equation known inner n) (Tells later equation knows inner n)
    tells_same zero j v ls us (e, none, is) same alike =
        let h : Among j us = subst (λ x. Among j x) (sym is) (inl refl) in (alike j h ∙ e, none, is)
    tells_same (suc n) j v ls us (inl t) same alike = inl (tells_same n j v ls us t same alike)
    tells_same (suc n) j v ls us (inr (is, p)) same alike = inr (
      is,
      passes_same (Tells look equation known inner n)
          (Tells later equation knows inner n) (tells_same n) (equation j) v ls us p same alike,
    )

    pub evaluates_same : {A : Type 0} (n : ℕ) (r : Run N A) (a : A) (ls : List (Location N)) (us : List (Instance N)) →
        Evaluates look equation known inner n r a ls us → AreSame look later ls → AreAlike known knows us →
        Evaluates later equation knows inner n r a ls us
    evaluates_same n r a ls us p same alike = passes_same (Tells look equation known inner n)
        (Tells later equation knows inner n) (tells_same n) r a ls us p same alike

-- one of two lists has the element that is told apart
abbrev Splits : {A : Type 0} → (xs ys front : List A) → A → (back : List A) → Type 0
Splits {A} xs ys front u back =
    ((b : List A) × (xs ≡ front ++ u ∷ b)) ⊎ ((f : List A) × (front ≡ xs ++ f) × (ys ≡ f ++ u ∷ back))

head_same : {A : Type 0} (x y : A) (xs ys : List A) → x ∷ xs ≡ y ∷ ys → x ≡ y
head_same x y xs ys e = cc

tail_same : {A : Type 0} (x y : A) (xs ys : List A) → x ∷ xs ≡ y ∷ ys → xs ≡ ys
tail_same x y xs ys e = cc

both_same : {A : Type 0} (x y : A) (xs ys : List A) → x ≡ y → xs ≡ ys → x ∷ xs ≡ y ∷ ys
both_same x y xs ys e f = cc

splits : {A : Type 0} (xs ys front : List A) (u : A) (back : List A) → xs ++ ys ≡ front ++ u ∷ back →
    Splits xs ys front u back
splits [] ys front u back e = inr (front, refl, e)
splits (x ∷ xs) ys [] u back e = inl (xs, both_same x u xs xs (head_same x u (xs ++ ys) back e) refl)
splits (x ∷ xs) ys (f ∷ front) u back e =
    let h = head_same x f (xs ++ ys) (front ++ u ∷ back) e in
    let t = tail_same x f (xs ++ ys) (front ++ u ∷ back) e in
    elim (splits xs ys front u back t) [
      | inl q ↦ inl (q.0, both_same x f xs (front ++ u ∷ q.0) h q.1)
      | inr q ↦ inr (q.0, both_same f x front (xs ++ q.0) (sym h) q.1, q.2)
    ]

none_there : {A : Type 0} (front : List A) (u : A) (back : List A) → [] ≡ front ++ u ∷ back → ⊥
none_there [] u back e = cc
none_there (f ∷ front) u back e = cc

-- of one element alone nothing is in front
alone_there : {A : Type 0} (j : A) (front : List A) (u : A) (back : List A) → j ∷ [] ≡ front ++ u ∷ back → j ≡ u
alone_there j [] u back e = head_same j u [] back e
alone_there j (f ∷ front) u back e =
    absurd (none_there front u back (tail_same j f [] (front ++ u ∷ back) e))

-- Of what an evaluation took the front is known rightly.
module _ {N : Type 0} (look : Contents N) (equation : Equations N) (forms : Forms N) (known knows : Known N)
    (inner : Instance N → Bool) (ground : IsGround look equation forms knows inner) where
  -- it comes to the instance, or to one that leads to it
  abbrev IsReached : {A : Type 0} → Run N A → Instance N → Type 0
  IsReached r u = (j : Instance N) × Reaches look (HasValue look forms) r j × DemandsOn look forms j u

  reached_led : (i u : Instance N) → forms.starts i.attribute ≡ None → IsReached (equation i) u →
      DemandsOn look forms i u
  reached_led i u own (j, c, d) = goes i j u (reaches_own look equation forms knows inner ground i j own c) d

  front_alike : (us f front : List (Instance N)) → front ≡ us ++ f → AreAlike known knows front →
      AreAlike known knows us
  front_alike us f front e alike u h = alike u (subst (λ x. Among u x) (sym e) (front_among u us f h))

  back_alike : (us f front : List (Instance N)) → front ≡ us ++ f → AreAlike known knows front →
      AreAlike known knows f
  back_alike us f front e alike u h = alike u (subst (λ x. Among u x) (sym e) (back_among u us f h))

  -- what is told of such ones holds
  told_holds : (n : ℕ) (j : Instance N) (v : Value N) (ls : List (Location N)) (us : List (Instance N)) →
      Tells look equation known inner n j v ls us → AreAlike known knows us → HasValue look forms j v
  told_holds n j v ls us t alike = tells_hold look equation forms knows inner ground n j v ls us
      (tells_same look look known knows equation inner n j v ls us t (λ l h. refl) alike)

  abbrev DemandsNext : ℕ → Type 0
  DemandsNext n = (j : Instance N) (v : Value N) (ls : List (Location N)) (us front : List (Instance N)) (u : Instance N)
      (back : List (Instance N)) → Tells look equation known inner n j v ls us → us ≡ front ++ u ∷ back →
      AreAlike known knows front → DemandsOn look forms j u

  reached_next : {A : Type 0} (n : ℕ) → DemandsNext n → (r : Run N A) (a : A) (ls : List (Location N))
      (us front : List (Instance N)) (u : Instance N) (back : List (Instance N)) →
      Evaluates look equation known inner n r a ls us → us ≡ front ++ u ∷ back → AreAlike known knows front →
      IsReached r u
  reached_next n below r a ls us front u back (gives _) e alike = absurd (none_there front u back e)
  reached_next n below r a ls us front u back (looks l k _ ls' _ p) e alike =
      reached_next n below (k (look l)) a ls' us front u back p e alike
  reached_next n below r a ls us front u back (told j k v _ l1 l2 u1 u2 t p) e alike =
      elim (splits u1 u2 front u back e) [
        | inl q ↦ (j, inl refl, below j v l1 u1 front u q.0 t q.1 alike)
        | inr q ↦
            let has = told_holds n j v l1 u1 t (front_alike u1 q.0 front q.1 alike) in
            let z = reached_next n below (k v) a l2 u2 q.0 u back p q.2 (back_alike u1 q.0 front q.1 alike) in
            (z.0, inr (v, has, z.1), z.2)
      ]

  demands_next : (n : ℕ) → DemandsNext n
  demands_next zero j v ls us front u back (e, none, is) s alike =
      subst (λ z. DemandsOn look forms j z) (alone_there j front u back (sym is ∙ s)) (stays j)
  demands_next (suc n) j v ls us front u back (inl t) s alike = demands_next n j v ls us front u back t s alike
  demands_next (suc n) j v ls us front u back (inr (is, p)) s alike =
      reached_led j u (ground.own j is) (reached_next n (demands_next n) (equation j) v ls us front u back p s alike)

  -- demands lead from the instance to what its evaluation took next
  pub takes_next : (n : ℕ) (i : Instance N) (v : Value N) (ls : List (Location N)) (us front : List (Instance N))
      (u : Instance N) (back : List (Instance N)) → forms.starts i.attribute ≡ None →
      Evaluates look equation known inner n (equation i) v ls us → us ≡ front ++ u ∷ back → AreAlike known knows front →
      DemandsOn look forms i u
  takes_next n i v ls us front u back own p e alike =
      reached_led i u own (reached_next n (demands_next n) (equation i) v ls us front u back p e alike)

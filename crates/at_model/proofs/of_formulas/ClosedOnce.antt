-- None has both an outcome and a circle, and a circle closes at one instance, also where attributes are circular.
use Rattle.std.proofs.Common.{◌≡◌, ℕ, zero, suc, List, [], ◌∷◌, ◌++◌, inl, inr, refl, sym, subst}
use Rattle.at_model.specs.Run.{Run, Gives, Fails, Looks, Demands, Contents, Instance}
use Rattle.at_model.specs.Meaning.{Outcome, Finds, Faults, Among, Reaches}
use Rattle.at_model.specs.of_fixpoints.Formulas.{Formula, atoms, Forms}
use Rattle.at_model.specs.of_fixpoints.Fixpoints.{End, Made, Spoilt, Ends, LeadsOver, stays, AreEnded, HoldsAt, EndsAt, Holds, HasValue, EndsSo}
use Rattle.at_model.specs.of_fixpoints.Circles.{HasNone, Closes, back, again, formed, spoilt, comes_back, deeper, Circular}
use Rattle.at_model.proofs.of_formulas.UniqueOutcomes.{once, once_at, ends_at, one_further}
use Rattle.at_model.proofs.Reached.{either_among}

-- the instance has an outcome at this depth
abbrev pub Settles : {N : Type 0} → Contents N → Forms N → ℕ → Instance N → Type 0
Settles {N} look forms n i = (o : Outcome N) × HoldsAt look forms n i o

-- an evaluation that ends at a depth has demanded what has outcomes there
pub ends_lower : {N A : Type 0} (look : Contents N) (forms : Forms N) (n : ℕ) (i : Instance N) (r : Run N A) (e : End N A)
    (j : Instance N) →
    Ends look (HoldsAt look forms n) i r e → Reaches look (HasValue look forms) r j → Settles look forms n j
ends_lower look forms n i (Gives a) e j x c = absurd c
ends_lower look forms n i (Fails f) e j x c = absurd c
ends_lower look forms n i (Looks l k) e j x c = ends_lower look forms n i (k (look l)) e j x c
ends_lower look forms n i (Demands m k) e j (inl (v, h, x)) (inl s) =
    (Finds v, subst (λ z. HoldsAt look forms n z (Finds v)) s h)
ends_lower look forms n i (Demands m k) e j (inr (f, at, h, x)) (inl s) =
    (Faults f at, subst (λ z. HoldsAt look forms n z (Faults f at)) s h)
ends_lower look forms n i (Demands m k) e j (inl (v, h, x)) (inr (w, (d, g), c)) =
    let q : Finds w ≡ Finds v = once_at look forms d n m (Finds w) (Finds v) g h in let q' : w ≡ v = cc in
    ends_lower look forms n i (k v) e j x (subst (λ z. Reaches look (HasValue look forms) (k z) j) q' c)
ends_lower look forms n i (Demands m k) e j (inr (f, at, h, x)) (inr (w, (d, g), c)) =
    let q : Finds w ≡ Faults f at = once_at look forms d n m (Finds w) (Faults f at) g h in absurd cc

-- all to which formulas lead from an instance with an outcome ends one deep less
pub ended : {N : Type 0} (look : Contents N) (forms : Forms N) (n : ℕ) (i : Instance N) →
    Settles look forms (suc n) i →
    AreEnded (EndsAt look forms n) i
ended look forms n i (Finds v, (c, x)) j l = let (f, h) = c j l in (Made f, h)
ended look forms n i (Faults k at, (c, x)) j l = c j l

-- from there no search comes back
none_closes : {N : Type 0} (look : Contents N) (forms : Forms N) (n : ℕ) (q : Instance N) →
    AreEnded (EndsAt look forms n) q →
    (seen todo : List (Instance N)) (j : Instance N) →
    ((k : Instance N) → Among k todo → LeadsOver (EndsAt look forms n) q k) → Closes look forms [] seen todo j → ⊥
none_closes look forms n q c seen [] j all x = absurd (elim x [ ])
none_closes look forms n q c seen (i ∷ todo) j all (back _ (h, g)) = absurd h
none_closes look forms n q c seen (i ∷ todo) j all (again _ o h x) =
    none_closes look forms n q c seen todo j (λ k a. all k (inr a)) x
none_closes look forms n q c seen (i ∷ todo) j all (formed _ f o h (d, y) x) =
    let (e, z) = c i (all i (inl refl)) in
    let r : Made f ≡ e = ends_at look forms d n i (Made f) e y z in
    none_closes look forms n q c (i ∷ seen) (atoms f ++ todo) j (λ k b. elim (either_among k (atoms f) todo b) [
      | inl u ↦ one_further (EndsAt look forms n) q i k f (subst (λ w. EndsAt look forms n i w) (sym r) z) u
          (all i (inl refl))
      | inr u ↦ all k (inr u)
    ]) x
none_closes look forms n q c seen (i ∷ todo) j all (spoilt _ at k o h y x) =
    none_closes look forms n q c (i ∷ seen) todo j (λ k a. all k (inr a)) x
none_closes look forms n q c seen (i ∷ todo) j all (comes_back _ k o h (r, none) m) =
    let (e, z) = c i (all i (inl refl)) in let (p, g) = ends_lower look forms n i (forms.formula i) e k z r in
    none p (n, g)
none_closes look forms n q c seen (i ∷ todo) j all (deeper _ k o h (r, none) m x) =
    let (e, z) = c i (all i (inl refl)) in let (p, g) = ends_lower look forms n i (forms.formula i) e k z r in
    none p (n, g)

-- no instance has both an outcome and a circle
pub not_both : {N : Type 0} (look : Contents N) (forms : Forms N) (q j : Instance N) (o : Outcome N) →
    Holds look forms q o → Circular look forms q j → ⊥
not_both look forms q j o (zero, h) x = h
not_both look forms q j o (suc n, h) x =
    none_closes look forms n q (ended look forms n q (o, h)) [] (q ∷ []) j
    (λ k a. elim a [
      | inl r ↦ subst (λ z. LeadsOver (EndsAt look forms n) q z) (sym r) (stays q)
      | inr u ↦ absurd u
    ]) x

-- the first demand without an outcome is one
pub first_unique : {N A : Type 0} (look : Contents N) (forms : Forms N) (r : Run N A) (i j : Instance N) →
    ((n : ℕ) → Settles look forms n i → ⊥) → ((n : ℕ) → Settles look forms n j → ⊥) →
    Reaches look (HasValue look forms) r i → Reaches look (HasValue look forms) r j → i ≡ j
first_unique look forms (Gives a) i j p q r s = absurd r
first_unique look forms (Fails f) i j p q r s = absurd r
first_unique look forms (Looks l k) i j p q r s = first_unique look forms (k (look l)) i j p q r s
first_unique look forms (Demands m k) i j p q (inl d) (inl e) = cc
first_unique look forms (Demands m k) i j p q (inl d) (inr (v, (n, h), s)) =
    absurd (p n (Finds v, subst (λ z. HoldsAt look forms n z (Finds v)) d h))
first_unique look forms (Demands m k) i j p q (inr (v, (n, h), r)) (inl e) =
    absurd (q n (Finds v, subst (λ z. HoldsAt look forms n z (Finds v)) e h))
first_unique look forms (Demands m k) i j p q (inr (v, h, r)) (inr (w, g, s)) =
    let e : Finds v ≡ Finds w = once look forms m (Finds v) (Finds w) h g in let e' : v ≡ w = cc in
    first_unique look forms (k w) i j p q (subst (λ z. Reaches look (HasValue look forms) (k z) i) e' r) s

-- what demands one that has no outcome doesn't end
pub not_ended : {N : Type 0} (look : Contents N) (forms : Forms N) (m j : Instance N) →
    ((n : ℕ) → Settles look forms n j → ⊥) → Reaches look (HasValue look forms) (forms.formula m) j →
    (e : End N (Formula N)) → EndsSo look forms m e → ⊥
not_ended look forms m j none c e (n, x) = none n (ends_lower look forms n m (forms.formula m) e j x c)

pub no_settling : {N : Type 0} (look : Contents N) (forms : Forms N) (k : Instance N) → HasNone look forms k → (n : ℕ) →
    Settles look forms n k → ⊥
no_settling look forms k none n (o, h) = none o (n, h)

-- a circle closes at one instance
pub closes_once : {N : Type 0} (look : Contents N) (forms : Forms N) (under seen todo : List (Instance N))
    (j k : Instance N) →
    Closes look forms under seen todo j → Closes look forms under seen todo k → j ≡ k
closes_once look forms under seen [] j k x y = absurd (elim x [ ])
closes_once look forms under seen (i ∷ todo) j k (back _ h) (back _ g) = refl
closes_once look forms under seen (i ∷ todo) j k (back _ h) (again _ o a y) = absurd (o h)
closes_once look forms under seen (i ∷ todo) j k (back _ h) (formed _ f o a e y) = absurd (o h)
closes_once look forms under seen (i ∷ todo) j k (back _ h) (spoilt _ at l o a e y) = absurd (o h)
closes_once look forms under seen (i ∷ todo) j k (back _ h) (comes_back _ l o a (r, n) m) = absurd (o h)
closes_once look forms under seen (i ∷ todo) j k (back _ h) (deeper _ l o a (r, n) m y) = absurd (o h)
closes_once look forms under seen (i ∷ todo) j k (again _ o a x) (back _ g) = absurd (o g)
closes_once look forms under seen (i ∷ todo) j k (again _ o a x) (again _ p b y) =
    closes_once look forms under seen todo j k x y
closes_once look forms under seen (i ∷ todo) j k (again _ o a x) (formed _ f p b e y) = absurd (b a)
closes_once look forms under seen (i ∷ todo) j k (again _ o a x) (spoilt _ at l p b e y) = absurd (b a)
closes_once look forms under seen (i ∷ todo) j k (again _ o a x) (comes_back _ l p b (r, n) m) = absurd (b a)
closes_once look forms under seen (i ∷ todo) j k (again _ o a x) (deeper _ l p b (r, n) m y) = absurd (b a)
closes_once look forms under seen (i ∷ todo) j k (formed _ f o a e x) (back _ g) = absurd (o g)
closes_once look forms under seen (i ∷ todo) j k (formed _ f o a e x) (again _ p b y) = absurd (a b)
closes_once look forms under seen (i ∷ todo) j k (formed _ f o a (c, e) x) (formed _ g p b (d, h) y) =
    let q : Made f ≡ Made g = ends_at look forms c d i (Made f) (Made g) e h in let q' : f ≡ g = cc in
    closes_once look forms under (i ∷ seen) (atoms g ++ todo) j k
    (subst (λ z. Closes look forms under (i ∷ seen) (atoms z ++ todo) j) q' x) y
closes_once look forms under seen (i ∷ todo) j k (formed _ f o a (c, e) x) (spoilt _ at l p b (d, h) y) =
    let q : Made f ≡ Spoilt l at = ends_at look forms c d i (Made f) (Spoilt l at) e h in absurd cc
closes_once look forms under seen (i ∷ todo) j k (formed _ f o a e x) (comes_back _ l p b (r, n) m) =
    absurd (not_ended look forms i l (no_settling look forms l n) r (Made f) e)
closes_once look forms under seen (i ∷ todo) j k (formed _ f o a e x) (deeper _ l p b (r, n) m y) =
    absurd (not_ended look forms i l (no_settling look forms l n) r (Made f) e)
closes_once look forms under seen (i ∷ todo) j k (spoilt _ at l o a e x) (back _ g) = absurd (o g)
closes_once look forms under seen (i ∷ todo) j k (spoilt _ at l o a e x) (again _ p b y) = absurd (a b)
closes_once look forms under seen (i ∷ todo) j k (spoilt _ at l o a (c, e) x) (formed _ g p b (d, h) y) =
    let q : Spoilt l at ≡ Made g = ends_at look forms c d i (Spoilt l at) (Made g) e h in absurd cc
closes_once look forms under seen (i ∷ todo) j k (spoilt _ at l o a e x) (spoilt _ to m p b h y) =
    closes_once look forms under (i ∷ seen) todo j k x y
closes_once look forms under seen (i ∷ todo) j k (spoilt _ at l o a e x) (comes_back _ m p b (r, n) c) =
    absurd (not_ended look forms i m (no_settling look forms m n) r (Spoilt l at) e)
closes_once look forms under seen (i ∷ todo) j k (spoilt _ at l o a e x) (deeper _ m p b (r, n) c y) =
    absurd (not_ended look forms i m (no_settling look forms m n) r (Spoilt l at) e)
closes_once look forms under seen (i ∷ todo) j k (comes_back _ l o a (r, n) m) (back _ g) = absurd (o g)
closes_once look forms under seen (i ∷ todo) j k (comes_back _ l o a (r, n) m) (again _ p b y) = absurd (a b)
closes_once look forms under seen (i ∷ todo) j k (comes_back _ l o a (r, n) m) (formed _ f p b e y) =
    absurd (not_ended look forms i l (no_settling look forms l n) r (Made f) e)
closes_once look forms under seen (i ∷ todo) j k (comes_back _ l o a (r, n) m) (spoilt _ at c p b e y) =
    absurd (not_ended look forms i l (no_settling look forms l n) r (Spoilt c at) e)
closes_once look forms under seen (i ∷ todo) j k (comes_back _ l o a (r, n) m) (comes_back _ c p b (s, d) e) =
    first_unique look forms (forms.formula i) l c (no_settling look forms l n) (no_settling look forms c d) r s
closes_once look forms under seen (i ∷ todo) j k (comes_back _ l o a (r, n) m) (deeper _ c p b (s, d) e y) =
    let q : l ≡ c = first_unique look forms (forms.formula i) l c (no_settling look forms l n)
    (no_settling look forms c d) r s in absurd (e (subst (λ z. Among z (i ∷ (seen ++ under))) q m))
closes_once look forms under seen (i ∷ todo) j k (deeper _ l o a (r, n) m x) (back _ g) = absurd (o g)
closes_once look forms under seen (i ∷ todo) j k (deeper _ l o a (r, n) m x) (again _ p b y) = absurd (a b)
closes_once look forms under seen (i ∷ todo) j k (deeper _ l o a (r, n) m x) (formed _ f p b e y) =
    absurd (not_ended look forms i l (no_settling look forms l n) r (Made f) e)
closes_once look forms under seen (i ∷ todo) j k (deeper _ l o a (r, n) m x) (spoilt _ at c p b e y) =
    absurd (not_ended look forms i l (no_settling look forms l n) r (Spoilt c at) e)
closes_once look forms under seen (i ∷ todo) j k (deeper _ l o a (r, n) m x) (comes_back _ c p b (s, d) e) =
    let q : l ≡ c = first_unique look forms (forms.formula i) l c (no_settling look forms l n)
    (no_settling look forms c d) r s in absurd (m (subst (λ z. Among z (i ∷ (seen ++ under))) (sym q) e))
closes_once look forms under seen (i ∷ todo) j k (deeper _ l o a (r, n) m x) (deeper _ c p b (s, d) e y) =
    let q : l ≡ c = first_unique look forms (forms.formula i) l c (no_settling look forms l n)
    (no_settling look forms c d) r s in
    closes_once look forms (i ∷ (seen ++ under)) [] (c ∷ []) j k
    (subst (λ z. Closes look forms (i ∷ (seen ++ under)) [] (z ∷ []) j) q x) y

pub closes_at_one : {N : Type 0} (look : Contents N) (forms : Forms N) (q j k : Instance N) →
    Circular look forms q j → Circular look forms q k → j ≡ k
closes_at_one look forms q j k x y = closes_once look forms [] [] (q ∷ []) j k x y

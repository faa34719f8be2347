-- And they close the same circles.
use Rattle.std.proofs.Common.{List, [], ◌∷◌, ◌++◌, inl, inr, refl, sym, subst}
use Rattle.at_model.specs.Run.{Instance, Contents}
use Rattle.at_model.specs.Meaning.{Outcome, Among, Answer, Outcomes, Circle}
use Rattle.at_model.specs.of_fixpoints.Formulas.{Formula, atoms, Forms}
use Rattle.at_model.specs.of_fixpoints.Fixpoints.{End, Spoilt, Holds, EndsSo, HasForm}
use Rattle.at_model.specs.of_fixpoints.Circles.{HasNone, IsOpen, WantsNone, Closes, back, again, formed, spoilt, comes_back, deeper, Answers}
use Rattle.at_model.proofs.Reached.{either_among}

-- Over instances of which this holds, what the first equations come to the second ones do, and none has an outcome by the one alone;
-- and it holds of what they lead to.
pub record GoOn {N : Type 0} (look : Contents N) (P : Instance N → Type 0) (here there : Forms N) : Type 0 where
  pub outcome : (i : Instance N) (o : Outcome N) → P i → Holds look here i o → Holds look there i o
  pub none : (i : Instance N) → P i → HasNone look here i → HasNone look there i
  pub ended : (i : Instance N) (e : End N (Formula N)) → P i → EndsSo look here i e → EndsSo look there i e
  pub spread : (i : Instance N) (f : Formula N) → P i → HasForm look here i f → (k : Instance N) → Among k (atoms f) → P k
  pub wants : (i k : Instance N) → P i → WantsNone look here i k → WantsNone look there i k × P k

module _ {N : Type 0} (look : Contents N) (P : Instance N → Type 0) (here there : Forms N) (on : GoOn look P here there) where
  open_back : (under : List (Instance N)) (i : Instance N) → P i → IsOpen look there under i → IsOpen look here under i
  open_back under i p (a, none) = (a, λ o h. none o (on.outcome i o p h))

  closes_on : (under seen todo : List (Instance N)) (j : Instance N) → ((k : Instance N) → Among k todo → P k)
      → Closes look here under seen todo j → Closes look there under seen todo j
  closes_on under seen [] j m x = absurd (elim x [ ])
  closes_on under seen (i ∷ todo) _ m (back _ (a, none)) = back i (a, on.none i (m i (inl refl)) none)
  closes_on under seen (i ∷ todo) j m (again _ o a x) =
      again i (λ z. o (open_back under i (m i (inl refl)) z)) a (closes_on under seen todo j (λ k b. m k (inr b)) x)
  closes_on under seen (i ∷ todo) j m (formed _ f o a h x) =
      let p = m i (inl refl) in
      formed i f (λ z. o (open_back under i p z)) a (on.ended i _ p h)
      (closes_on under (i ∷ seen) (atoms f ++ todo) j
      (λ k b. elim (either_among k (atoms f) todo b) [ inl u ↦ on.spread i f p h k u | inr u ↦ m k (inr u) ]) x)
  closes_on under seen (i ∷ todo) j m (spoilt _ at c o a h x) =
      let p = m i (inl refl) in
      spoilt i at c (λ z. o (open_back under i p z)) a (on.ended i (Spoilt c at) p h) (closes_on under (i ∷ seen) todo j (λ k b. m k (inr b)) x)
  closes_on under seen (i ∷ todo) _ m (comes_back _ k o a w b) =
      let p = m i (inl refl) in
      comes_back i k (λ z. o (open_back under i p z)) a (on.wants i k p w).0 b
  closes_on under seen (i ∷ todo) j m (deeper _ k o a w b x) =
      let p = m i (inl refl) in
      let (v, q) = on.wants i k p w in
      deeper i k (λ z. o (open_back under i p z)) a v b (closes_on (i ∷ (seen ++ under)) [] (k ∷ []) j (λ n c. only k n q c) x)
    where
      only : (k n : Instance N) → P k → Among n (k ∷ []) → P n
      only k n q (inl r) = subst P (sym r) q
      only k n q (inr u) = absurd u

  pub answers_on : (q : Instance N) (a : Answer N) → P q → Answers look here q a → Answers look there q a
  answers_on q (Outcomes o) p h = on.outcome q o p h
  answers_on q (Circle j) p h = closes_on [] [] (q ∷ []) j (λ k a. only k a) h
    where
      only : (k : Instance N) → Among k (q ∷ []) → P k
      only k (inl r) = subst P (sym r) p
      only k (inr u) = absurd u

-- Where a circle answers a question, each demand of what its search looks at is decided: it has an outcome, or is looked at.
use Rattle.std.proofs.Common.{◌≡◌, ◌⊎◌, List, [], ◌∷◌, ◌++◌, inl, inr, sym, subst}
use Rattle.at_model.specs.Run.{Instance, Contents, Run, Gives, Fails, Looks, Demands}
use Rattle.at_model.specs.Meaning.{Outcome, Finds, Among, Reaches}
use Rattle.at_model.proofs.Reached.{either_among}
use Rattle.at_model.specs.of_fixpoints.Formulas.{Formula, atoms, Forms}
use Rattle.at_model.specs.of_fixpoints.Fixpoints.{End, Made, Spoilt, Holds, HasValue, EndsSo}
use Rattle.at_model.specs.of_fixpoints.Circles.{HasNone, WantsNone, Closes, Circular}
use Rattle.at_model.specs.of_fixpoints.Circles as closes
use Rattle.at_model.specs.of_fixpoints.Met.{LooksAt, here, again, formed, spoilt, deeper, IsLookedAt}
use Rattle.at_model.proofs.of_formulas.ClosedOnce.{ends_lower}
use Rattle.at_model.proofs.of_formulas.UniqueOutcomes.{once}
use Rattle.at_model.proofs.of_searching.LookedAt.{back_alone, seen_on, ended_on, wanting_alone, wanting_on}

module _ {N : Type 0} (look : Contents N) (forms : Forms N) (Q : Instance N → Type 0) where
  -- its equation has ended, or demands one that has no outcome, of which this holds
  abbrev pub IsDecided : Instance N → Type 0
  IsDecided i = ((e : End N (Formula N)) × EndsSo look forms i e) ⊎ ((k : Instance N) × WantsNone look forms i k × Q k)

  moved : (x i : Instance N) → x ≡ i → IsDecided i → IsDecided x
  moved x i e d = subst (λ z. IsDecided z) (sym e) d

  on_top : (i : Instance N) (is : List (Instance N)) → Q i → ((y : Instance N) → Among y is → Q y) → (y : Instance N)
      → Among y (i ∷ is) → Q y
  on_top i is here_so all y (inl e) = subst (λ z. Q z) (sym e) here_so
  on_top i is here_so all y (inr a) = all y a

  decided_top : (i : Instance N) (is : List (Instance N)) → IsDecided i → ((y : Instance N) → Among y is → IsDecided
      y) →
      (y : Instance N) → Among y (i ∷ is) → IsDecided y
  decided_top i is here_so all y (inl e) = moved y i e here_so
  decided_top i is here_so all y (inr a) = all y a

  either_decided : (s u : List (Instance N)) → ((y : Instance N) → Among y s → IsDecided y) → ((y : Instance N) →
      Among y u → IsDecided y) →
      (y : Instance N) → Among y (s ++ u) → IsDecided y
  either_decided s u seen below y a = elim (either_among y s u a) [ inl b ↦ seen y b | inr b ↦ below y b ]

  -- so it is of all that a search looks at that closes a circle
  pub decided : (u s t : List (Instance N)) (c x : Instance N) → ((y : Instance N) → LooksAt look forms u s t y → Q y) →
      ((y : Instance N) → Among y (s ++ u) → Q y) → ((y : Instance N) → Among y s → IsDecided y) →
      ((y : Instance N) → Among y u → IsDecided y) →
      Closes look forms u s t c → LooksAt look forms u s t x → IsDecided x
  decided u s [] c x at all seen below d l = absurd (elim d [ ])
  decided u s (i ∷ t) c x at all seen below (closes.back _ o) l = moved x i (back_alone look forms u s t i x o l)
      (below i o.0)
  decided u s (i ∷ t) c x at all seen below (closes.again _ off a d) l = elim (seen_on look forms u s t i x a l) [
    | inl e ↦ moved x i e (seen i a)
    | inr m ↦ decided u s t c x (λ y n. at y (again i off a n)) all seen below d m
  ]
  decided u s (i ∷ t) c x at all seen below (closes.formed _ f off n h d) l = elim (ended_on look forms u s t i x
      (Made f) h n l) [
        | inl e ↦ moved x i e (inl (Made f, h))
        | inr m ↦ decided u (i ∷ s) (atoms f ++ t) c x (λ y k. at y (formed i f off n h k)) (on_top i (s ++ u) (at i (here
            i)) all)
            (decided_top i s (inl (Made f, h)) seen) below d m
      ]
  decided u s (i ∷ t) c x at all seen below (closes.spoilt _ p k off n h d) l = elim (ended_on look forms u s t i x
      (Spoilt k p) h n l) [
        | inl e ↦ moved x i e (inl (Spoilt k p, h))
        | inr m ↦ decided u (i ∷ s) t c x (λ y z. at y (spoilt i p k off n h z)) (on_top i (s ++ u) (at i (here i)) all)
            (decided_top i s (inl (Spoilt k p, h)) seen) below d m
      ]
  decided u s (i ∷ t) c x at all seen below (closes.comes_back _ k off n w a) l =
      moved x i (wanting_alone look forms u s t i x k w a n l) (inr (k, w, on_top i (s ++ u) (at i (here i)) all k a))
  decided u s (i ∷ t) c x at all seen below (closes.deeper _ k off n w m d) l = elim (wanting_on look forms u s t i x
      k w n l) [
        | inl e ↦ moved x i e (inr (k, w, at k (deeper i k off n w m (here k))))
        | inr p ↦ decided (i ∷ (s ++ u)) [] (k ∷ []) c x (λ y z. at y (deeper i k off n w m z)) (on_top i (s ++ u) (at i
            (here i)) all)
            (λ y a. absurd a)
            (decided_top i (s ++ u) (inr (k, w, at k (deeper i k off n w m (here k)))) (either_decided s u seen below)) d p
      ]

module _ {N : Type 0} (look : Contents N) (forms : Forms N) where
  -- what an equation that has ended demands has an outcome
  ended_demand : (i j : Instance N) (e : End N (Formula N)) → EndsSo look forms i e →
      Reaches look (HasValue look forms) (forms.formula i) j → (o : Outcome N) × Holds look forms j o
  ended_demand i j e (n, x) r = let (o, h) = ends_lower look forms n i (forms.formula i) e j x r in (o, (n, h))

  -- what is demanded beside one that has no outcome has a value
  demanded_beside : {A : Type 0} (r : Run N A) (j k : Instance N) → HasNone look forms k → Reaches look (HasValue look
      forms) r k →
      Reaches look (HasValue look forms) r j → ((o : Outcome N) × Holds look forms j o) ⊎ (j ≡ k)
  demanded_beside (Gives a) j k none c d = absurd c
  demanded_beside (Fails f) j k none c d = absurd c
  demanded_beside (Looks l g) j k none c d = demanded_beside (g (look l)) j k none c d
  demanded_beside (Demands m g) j k none (inl e) (inl d) = inr cc
  demanded_beside (Demands m g) j k none (inl e) (inr (w, h, d)) =
      absurd (none (Finds w) (subst (λ z. Holds look forms z (Finds w)) e h))
  demanded_beside (Demands m g) j k none (inr (v, h, c)) (inl d) = inl (
    Finds v,
    subst (λ z. Holds look forms z (Finds
        v)) d h,
  )
  demanded_beside (Demands m g) j k none (inr (v, h, c)) (inr (w, y, d)) =
      let e : Finds v ≡ Finds w = once look forms m (Finds v) (Finds w) h y in let e' : v ≡ w = cc in
      demanded_beside (g w) j k none (subst (λ z. Reaches look (HasValue look forms) (g z) k) e' c) d

  -- so is what is demanded by one at which the search for a question looks that a circle answers
  pub demand_decided : (q c i j : Instance N) → Circular look forms q c → IsLookedAt look forms q i →
      Reaches look (HasValue look forms) (forms.formula i) j →
      ((o : Outcome N) × Holds look forms j o) ⊎ (HasNone look forms j × IsLookedAt look forms q j)
  demand_decided q c i j circle l r =
      elim (decided look forms (IsLookedAt look forms q) [] [] (q ∷ []) c i (λ y m. m) (λ y a. absurd a) (λ y a.
      absurd a) (λ y a. absurd a) circle l) [
        | inl (e, ends) ↦ inl (ended_demand i j e ends r)
        | inr (k, (reach, none), at) ↦ elim (demanded_beside (forms.formula i) j k none reach r) [
          | inl h ↦ inl h
          | inr same ↦ inr (
            subst (λ z. HasNone look forms z) (sym same) none,
            subst (λ z. IsLookedAt look forms q z)
                (sym same) at,
          )
        ]
      ]

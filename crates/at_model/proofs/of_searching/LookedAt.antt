-- What a search looks at, step by step.
use Rattle.std.proofs.Common.{◌≡◌, ◌⊎◌, List, [], ◌∷◌, ◌++◌, inl, inr, refl, sym, subst}
use Rattle.at_model.specs.Run.{Instance, Contents}
use Rattle.at_model.specs.Meaning.{Among, Reaches}
use Rattle.at_model.proofs.Reached.{either_among}
use Rattle.at_model.specs.of_fixpoints.Formulas.{Formula, atoms, Forms}
use Rattle.at_model.specs.of_fixpoints.Fixpoints.{End, Made, Spoilt, EndsSo, HasValue}
use Rattle.at_model.specs.of_fixpoints.Circles.{IsOpen, WantsNone}
use Rattle.at_model.specs.of_fixpoints.Resting.{Leads}
use Rattle.at_model.specs.of_fixpoints.Resting as led
use Rattle.at_model.specs.of_fixpoints.Searching.{asked_in}
use Rattle.at_model.specs.of_fixpoints.Met.{LooksAt, here, again, formed, spoilt, deeper, IsLookedAt}
use Rattle.at_model.proofs.of_formulas.ClosedOnce.{first_unique, not_ended, no_settling}
use Rattle.at_model.proofs.of_searching.PassedCircles.{ends_one}
use Rattle.at_model.proofs.of_searching.Turned.{leads_by}

module _ {N : Type 0} (look : Contents N) (forms : Forms N) where
  -- what closes a circle is the last one
  pub back_alone : (under seen todo : List (Instance N)) (i x : Instance N) → IsOpen look forms under i → LooksAt look forms under seen (i ∷ todo) x → x ≡ i
  back_alone under seen todo i x o (here _) = refl
  back_alone under seen todo i x o (again _ off a l) = absurd (off o)
  back_alone under seen todo i x o (formed _ f off n h l) = absurd (off o)
  back_alone under seen todo i x o (spoilt _ at k off n h l) = absurd (off o)
  back_alone under seen todo i x o (deeper _ k off n w m l) = absurd (off o)

  -- one that was seen is passed
  pub seen_on : (under seen todo : List (Instance N)) (i x : Instance N) → Among i seen → LooksAt look forms under seen (i ∷ todo) x → (x ≡ i) ⊎ LooksAt look forms under seen todo x
  seen_on under seen todo i x a (here _) = inl refl
  seen_on under seen todo i x a (again _ off b l) = inr l
  seen_on under seen todo i x a (formed _ f off n h l) = absurd (n a)
  seen_on under seen todo i x a (spoilt _ at k off n h l) = absurd (n a)
  seen_on under seen todo i x a (deeper _ k off n w m l) = absurd (n a)

  -- behind one whose equation has ended so, what that leads to is looked at
  pub ended_on : (under seen todo : List (Instance N)) (i x : Instance N) → (e : End N (Formula N)) → EndsSo look forms i e → (¬ (Among i seen)) →
      LooksAt look forms under seen (i ∷ todo) x → (x ≡ i) ⊎ LooksAt look forms under (i ∷ seen) (asked_in e ++ todo) x
  ended_on under seen todo i x e y n (here _) = inl refl
  ended_on under seen todo i x e y n (again _ off a l) = absurd (n a)
  ended_on under seen todo i x e y n (formed _ f off m h l) =
      inr (subst (λ z. LooksAt look forms under (i ∷ seen) (asked_in z ++ todo) x) (ends_one look forms i (Made f) e h y) l)
  ended_on under seen todo i x e y n (spoilt _ at k off m h l) =
      inr (subst (λ z. LooksAt look forms under (i ∷ seen) (asked_in z ++ todo) x) (ends_one look forms i (Spoilt k at) e h y) l)
  ended_on under seen todo i x e y n (deeper _ k off m (r, none) o l) = absurd (not_ended look forms i k (no_settling look forms k none) r e y)

  -- one that wants what is under way is the last one
  pub wanting_alone : (under seen todo : List (Instance N)) (i x : Instance N) → (k : Instance N) → WantsNone look forms i k → Among k (i ∷ (seen ++ under)) → (¬ (Among i seen)) →
      LooksAt look forms under seen (i ∷ todo) x → x ≡ i
  wanting_alone under seen todo i x k w a n (here _) = refl
  wanting_alone under seen todo i x k w a n (again _ off b l) = absurd (n b)
  wanting_alone under seen todo i x k (r, none) a n (formed _ f off m h l) = absurd (not_ended look forms i k (no_settling look forms k none) r (Made f) h)
  wanting_alone under seen todo i x k (r, none) a n (spoilt _ at c off m h l) =
      absurd (not_ended look forms i k (no_settling look forms k none) r (Spoilt c at) h)
  wanting_alone under seen todo i x k (r, none) a n (deeper _ c off m (s, d) o l) =
      let q : k ≡ c = first_unique look forms (forms.formula i) k c (no_settling look forms k none) (no_settling look forms c d) r s in
      absurd (o (subst (λ z. Among z (i ∷ (seen ++ under))) q a))

  -- behind one that wants what has no outcome, the next level is looked at
  pub wanting_on : (under seen todo : List (Instance N)) (i x : Instance N) → (k : Instance N) → WantsNone look forms i k → (¬ (Among i seen)) → LooksAt look forms under seen (i ∷ todo) x →
      (x ≡ i) ⊎ LooksAt look forms (i ∷ (seen ++ under)) [] (k ∷ []) x
  wanting_on under seen todo i x k w n (here _) = inl refl
  wanting_on under seen todo i x k w n (again _ off b l) = absurd (n b)
  wanting_on under seen todo i x k (r, none) n (formed _ f off m h l) = absurd (not_ended look forms i k (no_settling look forms k none) r (Made f) h)
  wanting_on under seen todo i x k (r, none) n (spoilt _ at c off m h l) =
      absurd (not_ended look forms i k (no_settling look forms k none) r (Spoilt c at) h)
  wanting_on under seen todo i x k (r, none) n (deeper _ c off m (s, d) o l) =
      let q : c ≡ k = first_unique look forms (forms.formula i) c k (no_settling look forms c d) (no_settling look forms k none) s r in
      inr (subst (λ z. LooksAt look forms (i ∷ (seen ++ under)) [] (z ∷ []) x) q l)

module _ {N : Type 0} (look : Contents N) (forms : Forms N) (q : Instance N) where
  -- what was asked leads to all that is looked at
  all_led : (under seen todo : List (Instance N)) (x : Instance N) → ((i : Instance N) → Among i todo → Leads look forms q i) →
      LooksAt look forms under seen todo x → Leads look forms q x
  all_led under seen [] x all l = absurd (elim l [ ])
  all_led under seen (i ∷ todo) x all (here _) = all i (inl refl)
  all_led under seen (i ∷ todo) x all (again _ off a l) = all_led under seen todo x (λ k b. all k (inr b)) l
  all_led under seen (i ∷ todo) x all (formed _ f off n h l) =
      all_led under (i ∷ seen) (atoms f ++ todo) x (λ k b. elim (either_among k (atoms f) todo b) [
        | inl u ↦ leads_by look forms q i k (all i (inl refl)) (led.goes i k k (inr (f, h, u)) (led.stays k))
        | inr u ↦ all k (inr u)
      ]) l
  all_led under seen (i ∷ todo) x all (spoilt _ at c off n h l) = all_led under (i ∷ seen) todo x (λ k b. all k (inr b)) l
  all_led under seen (i ∷ todo) x all (deeper _ k off n (r, none) m l) =
      all_led (i ∷ (seen ++ under)) [] (k ∷ []) x (λ j b. elim b [
        | inl e ↦ leads_by look forms q i j (all i (inl refl))
            (led.goes i j j (inl (subst (λ z. Reaches look (HasValue look forms) (forms.formula i) z) (sym e) r)) (led.stays j))
        | inr u ↦ absurd u
      ]) l

  pub looked_led : (x : Instance N) → IsLookedAt look forms q x → Leads look forms q x
  looked_led x l = all_led [] [] (q ∷ []) x (λ i a. elim a [
    | inl e ↦ subst (λ z. Leads look forms q z) (sym e) (led.stays q)
    | inr u ↦ absurd u
  ]) l

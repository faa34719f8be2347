-- The value of an instance, by whether its formula leaves the start value.
use Rattle.std.proofs.Common.{◌≡◌, ◌⊎◌, ℕ, zero, suc, Bool, true, false, not, List, [], ◌∷◌, ◌++◌, Option, Some, None, inl, inr, refl, sym, ap, ◌∙◌, subst, true≢false}
use Rattle.at_model.specs.Run.{Value, Truth, Instance, Contents}
use Rattle.at_model.specs.Bodies.{bool_eq}
use Rattle.at_model.specs.Meaning.{Among}
use Rattle.at_model.specs.of_fixpoints.Formulas.{Formula, Asks, atoms, Forms}
use Rattle.at_model.specs.of_fixpoints.Fixpoints.{End, Made, Leaves, known, asks, true_both, true_left, true_right, false_left, false_right, false_both, Valued}
use Rattle.at_model.specs.of_fixpoints.Fixpoints.{AreFormed, LeadsOver, EndsAt, EndsSo, HasForm, HasValue}
use Rattle.at_model.specs.of_fixpoints.Searched.{IsWhole}
use Rattle.at_model.proofs.of_formulas.UniqueOutcomes.{closed, ends_at, itself, leaves_over}
use Rattle.at_model.proofs.of_formulas.Solved.{component_valued}
use Rattle.at_search.proofs.Meeting.{formed_of}

module _ (look : Contents ℕ) (forms : Forms ℕ) where
  -- a derivation at a depth is one
  risen : (n : ℕ) (b : Bool) (f : Formula ℕ) → Leaves (λ j g. EndsAt look forms n j (Made g)) b f → Leaves (HasForm look forms) b f
  risen n _ _ (known b) = known b
  risen n _ _ (asks b i f h x) = asks b i f (n, h) (risen n b f x)
  risen n _ _ (true_both {f} {g} x y) = true_both (risen n false f x) (risen n false g y)
  risen n _ _ (true_left {f} {g} x) = true_left (risen n false f x)
  risen n _ _ (true_right {f} {g} y) = true_right (risen n false g y)
  risen n _ _ (false_left {f} {g} x) = false_left (risen n true f x)
  risen n _ _ (false_right {f} {g} y) = false_right (risen n true g y)
  risen n _ _ (false_both {f} {g} x y) = false_both (risen n true f x) (risen n true g y)

  -- and one is there at a depth at which all have formulas
  lowered : (n : ℕ) (b : Bool) (i : Instance ℕ) → AreFormed (EndsAt look forms n) i → Leaves (HasForm look forms) b (Asks i) →
      Leaves (λ j g. EndsAt look forms n j (Made g)) b (Asks i)
  lowered n b i c l =
      leaves_over (EndsSo look forms) (EndsAt look forms n) (λ j d e x y. ends_at look forms x.0 n j d e x.1 y)
      (LeadsOver (EndsAt look forms n) i) (closed (EndsAt look forms n) i c) b (Asks i) l (itself (EndsAt look forms n) i)

  -- it leaves the start value, or stays there
  abbrev IsDecided : Bool → Instance ℕ → Value ℕ → Type 0
  IsDecided b i v = (Leaves (HasForm look forms) b (Asks i) × (v ≡ Truth (not b)))
      ⊎ ((¬ (Leaves (HasForm look forms) b (Asks i))) × (v ≡ Truth b))

  pub decided : (b : Bool) (i : Instance ℕ) (v : Value ℕ) → forms.starts i.attribute ≡ Some b → HasValue look forms i v → IsDecided b i v
  decided b i v e (zero, h) = absurd h
  decided b i v e (suc n, (c, x)) = by (subst (λ z. Valued (λ j f. EndsAt look forms n j (Made f)) z i v) e x)
    where
      by : Valued (λ j f. EndsAt look forms n j (Made f)) (Some b) i v → IsDecided b i v
      by (inl (l, q)) = inl (risen n b (Asks i) l, q)
      by (inr (o, q)) = inr (λ l. o (lowered n b i c l), q)

  turned : (b : Bool) → not b ≡ not (bool_eq true b)
  turned true = refl
  turned false = refl

  stayed : (b : Bool) → b ≡ not (bool_eq false b)
  stayed true = refl
  stayed false = refl

  -- the value by what is derived
  pub told_value : (b : Bool) (i : Instance ℕ) (v : Value ℕ) (d : Bool) → IsDecided b i v →
      (d ≡ true → Leaves (HasForm look forms) b (Asks i)) → (Leaves (HasForm look forms) b (Asks i) → d ≡ true) →
      v ≡ Truth (not (bool_eq d b))
  told_value b i v true (inl (l, q)) there back = q ∙ ap Truth (turned b)
  told_value b i v true (inr (o, q)) there back = absurd (o (there refl))
  told_value b i v false (inl (l, q)) there back = absurd (true≢false (sym (back l)))
  told_value b i v false (inr (o, q)) there back = q ∙ ap Truth (stayed b)

  -- what is whole, and starts so, has that value
  pub has_value : (b : Bool) (i : Instance ℕ) (d : Bool) → forms.starts i.attribute ≡ Some b → IsWhole look forms i →
      (d ≡ true → Leaves (HasForm look forms) b (Asks i)) → (Leaves (HasForm look forms) b (Asks i) → d ≡ true) →
      HasValue look forms i (Truth (not (bool_eq d b)))
  has_value b i d e (W, w, h) there back =
      let (v, x) = component_valued look forms W (formed_of look forms W w) i b h e in
      subst (λ z. HasValue look forms i z) (told_value b i v d (decided b i v e x) there back) x

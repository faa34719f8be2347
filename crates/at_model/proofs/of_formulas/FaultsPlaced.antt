-- A fault's place is an instance that the question leads to, and the fault is that of its own equation, also where
-- attributes are circular.
use Rattle.std.proofs.Common.{◌≡◌, ◌⊎◌, ℕ, zero, suc, List, [], ◌∷◌, ◌++◌, inl, inr, refl, sym, subst}
use Rattle.at_model.specs.Run.{Value, FaultKind, Instance, Contents, Run, Gives, Fails, Looks, Demands}
use Rattle.at_model.specs.Meaning.{Finds, Faults, Among, Reaches}
use Rattle.at_model.proofs.Reached.{either_among}
use Rattle.at_model.specs.of_fixpoints.Formulas.{Formula, atoms, Forms}
use Rattle.at_model.specs.of_fixpoints.Fixpoints.{Made, Spoilt, Ends, Meets, again, formed, spoilt, HoldsAt, EndsAt, Holds, HasValue}
use Rattle.at_model.specs.of_fixpoints.Resting.{Leads, stays, goes}
use Rattle.at_model.specs.of_fixpoints.Failing.{FailsItself}
use Rattle.at_model.proofs.of_formulas.UniqueOutcomes.{Ending}
use Rattle.at_model.proofs.of_formulas.Spreading.{leads_further}

-- a search meets the fault of one to which it leads
met_by : {N : Type 0} (E : Ending N) (Led : Instance N → Type 0) →
    ((j k : Instance N) (g : Formula N) → Led j → E j (Made g) → Among k (atoms g) → Led k) →
    (seen todo : List (Instance N)) (f : FaultKind) (i : Instance N) → ((j : Instance N) → Among j todo → Led j) →
    Meets E seen todo f i → (j : Instance N) × Led j × E j (Spoilt f i)
met_by E Led on seen [] f i led x = absurd (elim x [ ])
met_by E Led on seen (j ∷ todo) f i led (again _ h x) = met_by E Led on seen todo f i (λ k m. led k (inr m)) x
met_by E Led on seen (j ∷ todo) f i led (formed _ g n h x) =
    met_by E Led on (j ∷ seen) (atoms g ++ todo) f i
    (λ k m. elim (either_among k (atoms g) todo m)
    [ inl a ↦ on j k g (led j (inl refl)) h a | inr a ↦ led k (inr a) ]) x
met_by E Led on seen (j ∷ todo) f i led (spoilt _ n h) = (j, led j (inl refl), h)

-- an evaluation fails by itself where more is known
pub fails_on : {N A : Type 0} (look : Contents N) (Has Had : Instance N → Value N → Type 0) →
    ((j : Instance N) (v : Value N) → Has j v → Had j v) → (r : Run N A) (f : FaultKind) →
    FailsItself look Has r f → FailsItself look Had r f
fails_on look Has Had on (Gives a) f x = x
fails_on look Has Had on (Fails g) f x = x
fails_on look Has Had on (Looks l k) f x = fails_on look Has Had on (k (look l)) f x
fails_on look Has Had on (Demands j k) f (v, h, x) = (v, on j v h, fails_on look Has Had on (k v) f x)

pub reaches_more : {N A : Type 0} (look : Contents N) (Has Had : Instance N → Value N → Type 0) →
    ((j : Instance N) (v : Value N) → Has j v → Had j v) → (r : Run N A) (j : Instance N) →
    Reaches look Has r j → Reaches look Had r j
reaches_more look Has Had on (Gives a) j x = x
reaches_more look Has Had on (Fails g) j x = x
reaches_more look Has Had on (Looks l k) j x = reaches_more look Has Had on (k (look l)) j x
reaches_more look Has Had on (Demands i k) j (inl e) = inl e
reaches_more look Has Had on (Demands i k) j (inr (v, h, x)) = inr (v, on i v h, reaches_more look Has Had on (k v) j x)

-- the value, by demands that are nested less than this deep
abbrev pub ValueAt : {N : Type 0} → Contents N → Forms N → ℕ → Instance N → Value N → Type 0
ValueAt look forms n j v = HoldsAt look forms n j (Finds v)

module _ {N : Type 0} (look : Contents N) (forms : Forms N) (i : Instance N) (f : FaultKind) where
  -- the place of the fault, from an instance
  abbrev pub IsPlaceFrom : Instance N → Type 0
  IsPlaceFrom q = Leads look forms q i × ((n : ℕ) × FailsItself look (ValueAt look forms n) (forms.formula i) f)

  abbrev pub IsOwnOrDemanded : ℕ → Instance N → Run N (Formula N) → Type 0
  IsOwnOrDemanded n q r = ((q ≡ i) × FailsItself look (ValueAt look forms n) r f)
      ⊎ ((j : Instance N) × Reaches look (ValueAt look forms n) r j × HoldsAt look forms n j (Faults f i))

  -- an equation that ends by a fault has it itself, or demands what has it
  pub own_or_demanded : (n : ℕ) (q : Instance N) (r : Run N (Formula N)) →
      Ends look (HoldsAt look forms n) q r (Spoilt f i) → IsOwnOrDemanded n q r
  own_or_demanded n q (Gives a) e = absurd cc
  own_or_demanded n q (Fails g) e = let here : q ≡ i = cc in let same : g ≡ f = cc in inl (here, same)
  own_or_demanded n q (Looks l k) e = own_or_demanded n q (k (look l)) e
  own_or_demanded n q (Demands j k) (inl (v, h, e)) = elim (own_or_demanded n q (k v) e) [
    | inl (here, x) ↦ inl (here, (v, h, x))
    | inr (m, x, g) ↦ inr (m, inr (v, h, x), g)
  ]
  own_or_demanded n q (Demands j k) (inr (g, at, h, e)) =
      let there : at ≡ i = cc in
      let same : g ≡ f = cc in
      inr (
        j,
        inl refl,
        subst (λ z. HoldsAt look forms n j (Faults z i)) same
            (subst (λ z. HoldsAt look forms n j (Faults g z)) there h),
      )

  place_at : (n : ℕ) (q : Instance N) → HoldsAt look forms n q (Faults f i) → IsPlaceFrom q
  place_at zero q x = absurd x
  place_at (suc n) q (ends, x) =
      let (j, led, e) = met_by (EndsAt look forms n) (Leads look forms q) on [] (q ∷ []) f i first x in
      by (place_at n) j led (own_or_demanded n j (forms.formula j) e)
    where
      on : (j k : Instance N) (g : Formula N) → Leads look forms q j → EndsAt look forms n j (Made g) →
          Among k (atoms g) →
          Leads look forms q k
      on j k g led e a = leads_further look forms q j k led (goes j k k (inr (g, (n, e), a)) (stays k))

      first : (j : Instance N) → Among j (q ∷ []) → Leads look forms q j
      first j (inl e) = subst (Leads look forms q) (sym e) (stays q)
      first j (inr a) = absurd a

      by : ((k : Instance N) → HoldsAt look forms n k (Faults f i) → IsPlaceFrom k) → (j : Instance N) →
          Leads look forms q j →
          IsOwnOrDemanded n j (forms.formula j) → IsPlaceFrom q
      by below j led (inl (here, own)) = (
        subst (Leads look forms q) here led,
        (n, subst (λ z. FailsItself look (ValueAt look forms n) (forms.formula z) f) here own),
      )
      by below j led (inr (k, r, h)) =
          let place = below k h in
          let comes = reaches_more look (ValueAt look forms n) (HasValue look forms) (λ m v y. (n, y))
          (forms.formula j) k r in
          (leads_further look forms q j i led (goes j k i (inl comes) place.0), place.1)

  pub placed : (q : Instance N) → Holds look forms q (Faults f i) → IsPlaceFrom q
  placed q (n, x) = place_at n q x

  pub fault_place : (q : Instance N) → Holds look forms q (Faults f i) →
      Leads look forms q i × FailsItself look (HasValue look forms) (forms.formula i) f
  fault_place q h =
      let place = placed q h in (
        place.0,
        fails_on look (ValueAt look forms place.1.0) (HasValue look forms) (λ j v y. (place.1.0, y))
            (forms.formula i) f place.1.1,
      )

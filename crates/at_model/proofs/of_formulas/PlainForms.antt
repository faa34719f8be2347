-- Where no attribute is circular, outcomes are what they are without any of this.
use Rattle.std.proofs.Common.{◌≡◌, ℕ, zero, suc, [], ◌∷◌, ◌++◌, Option, Some, None, inl, inr, refl, sym, ◌∙◌, subst, ap}
use Rattle.at_model.specs.Run.{Value, Run, Gives, Fails, Looks, Demands, Needs, Contents, Instance, tried, ◌>>=◌}
use Rattle.at_model.specs.Meaning.{Outcome, Finds, Faults, Among, Equations, settled, outcome_at, value_in}
use Rattle.at_model.specs.Meaning as meaning
use Rattle.at_model.specs.of_fixpoints.Formulas.{Formula, Known, atoms}
use Rattle.at_model.specs.of_fixpoints.Fixpoints.{End, Made, Spoilt, Ends, LeadsOver, stays, goes, Meets, again, formed, spoilt, HoldsAt, EndsAt, Holds}
use Rattle.at_model.specs.of_fixpoints.Sets.{plain_forms}

-- the end that an outcome is
abbrev end_of : {N : Type 0} → Outcome N → End N (Formula N)
end_of (Finds v) = Made (Known v)
end_of (Faults f at) = Spoilt f at

-- what is settled ends so
ends_demand : {N : Type 0} (look : Contents N) (f : Instance N → Option (Outcome N))
    (G : Instance N → Outcome N → Type 0) (i j : Instance N) (k : Value N → Run N (Value N)) (o : Outcome N)
    (p : Option (Outcome N)) → f j ≡ p →
    ((q : Outcome N) → p ≡ Some q → G j q) →
    ((v : Value N) → settled f i (tried look (λ j. value_in (f j)) (k v)) ≡ Some o →
    Ends look G i (k v >>= λ v. Gives (Known v)) (end_of o)) →
    settled f i (elim (value_in p) [ None ↦ Needs j | Some v ↦ tried look (λ j. value_in (f j)) (k v) ]) ≡ Some o →
    Ends look G i (Demands j k >>= λ v. Gives (Known v)) (end_of o)
ends_demand look f G i j k o None is has step e = absurd cc
ends_demand look f G i j k o (Some (Finds v)) is has step e = inl (v, has (Finds v) refl, step v e)
ends_demand look f G i j k o (Some (Faults x at)) is has step e = let q : Faults x at ≡ o = cc in
    inr (x, at, has (Faults x at) refl, ap end_of q)

ends_so : {N : Type 0} (look : Contents N) (f : Instance N → Option (Outcome N)) (G : Instance N → Outcome N → Type 0)
    → ((j : Instance N) (q : Outcome N) → f j ≡ Some q → G j q) →
    (i : Instance N) (r : Run N (Value N)) (o : Outcome N) →
    settled f i (tried look (λ j. value_in (f j)) r) ≡ Some o →
    Ends look G i (r >>= λ v. Gives (Known v)) (end_of o)
ends_so look f G has i (Gives a) o e = let q : Finds a ≡ o = cc in ap end_of q
ends_so look f G has i (Fails x) o e = let q : Faults x i ≡ o = cc in ap end_of q
ends_so look f G has i (Looks l k) o e = ends_so look f G has i (k (look l)) o e
ends_so look f G has i (Demands j k) o e =
    ends_demand look f G i j k o (f j) refl (has j) (λ v. ends_so look f G has i (k v) o) e

-- what a plain equation ends with is a value
pub plain_value : {N : Type 0} (look : Contents N) (G : Instance N → Outcome N → Type 0) (i : Instance N)
    (r : Run N (Value N)) (f : Formula N) → Ends look G i (r >>= λ v. Gives (Known v)) (Made f) →
    (v : Value N) × (f ≡ Known v)
plain_value look G i (Gives a) f e = let q : f ≡ Known a = cc in (a, q)
plain_value look G i (Fails x) f e = absurd cc
plain_value look G i (Looks l k) f e = plain_value look G i (k (look l)) f e
plain_value look G i (Demands j k) f (inl (v, h, x)) = plain_value look G i (k v) f x
plain_value look G i (Demands j k) f (inr (x, at, h, e)) = absurd cc

pub plain_alone : {N : Type 0} (look : Contents N) (equation : Equations N) (n : ℕ) (i j : Instance N) →
    LeadsOver (EndsAt look (plain_forms equation) n) i j → i ≡ j
plain_alone look equation n _ _ (stays i) = refl
plain_alone look equation n _ _ (goes i j k f h a l) =
    let (v, q) = plain_value look (HoldsAt look (plain_forms equation) n) i (equation i) f h in
    absurd (subst (λ z. Among j (atoms z)) q a)

pub holds_on : {N : Type 0} (look : Contents N) (equation : Equations N) (n : ℕ) (i : Instance N) (o : Outcome N) →
    outcome_at look equation n i ≡ Some o → HoldsAt look (plain_forms equation) n i o
holds_on look equation zero i o e = absurd cc
holds_on look equation (suc n) i (Finds v) e =
    let x = ends_so look (outcome_at look equation n) (HoldsAt look (plain_forms equation) n)
    (holds_on look equation n) i (equation i) (Finds v) e in (
      λ j l. subst (λ z. (f : Formula _) × EndsAt look (plain_forms equation) n z (Made f))
          (plain_alone look equation n i j l) (Known v, x),
      x,
    )
holds_on look equation (suc n) i (Faults k at) e =
    let x = ends_so look (outcome_at look equation n) (HoldsAt look (plain_forms equation) n)
    (holds_on look equation n) i (equation i) (Faults k at) e in (
      λ j l. subst (λ z. (e : End _ (Formula _)) × EndsAt look (plain_forms equation) n z e)
          (plain_alone look equation n i j l) (Spoilt k at, x),
      spoilt i (λ h. h) x,
    )

-- and what ends so is settled
settles_so : {N : Type 0} (look : Contents N) (f : Instance N → Option (Outcome N))
    (G : Instance N → Outcome N → Type 0) → ((j : Instance N) (q : Outcome N) → G j q → f j ≡ Some q) →
    (i : Instance N) (r : Run N (Value N)) (o : Outcome N) → Ends look G i (r >>= λ v. Gives (Known v)) (end_of o) →
    settled f i (tried look (λ j. value_in (f j)) r) ≡ Some o
settles_so look f G has i (Gives a) (Finds v) e = let q : Known a ≡ Known v = cc in let r : a ≡ v = cc in cc
settles_so look f G has i (Gives a) (Faults x at) e = absurd cc
settles_so look f G has i (Fails x) (Finds v) e = absurd cc
settles_so look f G has i (Fails x) (Faults y at) e = cc
settles_so look f G has i (Looks l k) o e = settles_so look f G has i (k (look l)) o e
settles_so look f G has i (Demands j k) o (inl (v, h, x)) = let q = has j (Finds v) h in
    subst (λ p. settled f i
    (elim (value_in p) [ None ↦ Needs j | Some v ↦ tried look (λ j. value_in (f j)) (k v) ]) ≡ Some o) (sym
    q) (settles_so look f G has i (k v) o x)
settles_so look f G has i (Demands j k) (Finds v) (inr (y, at, h, e)) = absurd cc
settles_so look f G has i (Demands j k) (Faults z b) (inr (y, at, h, e)) = let q = has j (Faults y at) h in
    let r : Faults y at ≡ Faults z b = cc in
    subst (λ p. settled f i
    (elim (value_in p) [ None ↦ Needs j | Some v ↦ tried look (λ j. value_in (f j)) (k v) ]) ≡ Some
    (Faults z b)) (sym q) (q ∙ ap Some r)

pub holds_back : {N : Type 0} (look : Contents N) (equation : Equations N) (n : ℕ) (i : Instance N) (o : Outcome N) →
    HoldsAt look (plain_forms equation) n i o → outcome_at look equation n i ≡ Some o
holds_back look equation zero i o x = absurd x
holds_back look equation (suc n) i (Finds v) (c, x) =
    settles_so look (outcome_at look equation n) (HoldsAt look (plain_forms equation) n) (holds_back look equation n)
    i (equation i) (Finds v) x
holds_back look equation (suc n) i (Faults k at) (c, again _ h x) = absurd h
holds_back look equation (suc n) i (Faults k at) (c, formed _ f h y x) =
    let (v, q) = plain_value look (HoldsAt look (plain_forms equation) n) i (equation i) f y in
    let x' : Meets (EndsAt look (plain_forms equation) n) (i ∷ []) [] k at =
    subst (λ z. Meets (EndsAt look (plain_forms equation) n) (i ∷ []) (atoms z ++ []) k at) q x in
    absurd (elim x' [ ])
holds_back look equation (suc n) i (Faults k at) (c, spoilt _ h x) =
    settles_so look (outcome_at look equation n) (HoldsAt look (plain_forms equation) n) (holds_back look equation n)
    i (equation i) (Faults k at) x

pub holds_on_all : {N : Type 0} (look : Contents N) (equation : Equations N) (i : Instance N) (o : Outcome N) →
    meaning.Holds look equation i o → Holds look (plain_forms equation) i o
holds_on_all look equation i o (n, e) = (n, holds_on look equation n i o e)

pub holds_back_all : {N : Type 0} (look : Contents N) (equation : Equations N) (i : Instance N) (o : Outcome N) →
    Holds look (plain_forms equation) i o → meaning.Holds look equation i o
holds_back_all look equation i o (n, x) = (n, holds_back look equation n i o x)

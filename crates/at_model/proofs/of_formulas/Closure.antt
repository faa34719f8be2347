-- All to which formulas lead from an instance is a list, where it stands in one; so what has a value leads to values
-- alone.
use Rattle.std.proofs.Common.{◌≡◌, ◌⊎◌, ℕ, zero, suc, Bool, List, [], ◌∷◌, Some, inl, inr, refl, sym, subst, ap, ◌∙◌}
use Rattle.at_model.specs.Run.{Value, Run, Gives, Fails, Looks, Demands, Contents, Instance}
use Rattle.at_model.specs.Meaning.{Finds, Among, Reaches}
use Rattle.at_model.specs.of_fixpoints.Formulas.{Formula, atoms, Forms}
use Rattle.at_model.specs.of_fixpoints.Fixpoints.{Made, Ends, LeadsOver, stays, goes, AreFormed, HoldsAt, EndsAt, HasValue, HasForm}
use Rattle.at_model.specs.of_fixpoints.Resting.{Comes, Leads}
use Rattle.at_model.specs.of_fixpoints.Resting as led
use Rattle.at_model.proofs.of_formulas.UniqueOutcomes.{Ending, once_at, ends_at, one_further}
use Rattle.at_model.proofs.of_formulas.Components.{AllAmong, FormedIn, all_end, led_within, are_formed}
use Rattle.at_model.proofs.of_formulas.Solved.{decided, valued_by}

module _ {N : Type 0} (E : Ending N) (i : Instance N) (formed : AreFormed E i) (all : List (Instance N))
    (place : (k : Instance N) → LeadsOver E i k → Among k all) where
  -- of each in the list that it is led to, or that this isn't known yet
  abbrev Part : List (Instance N) → Type 0
  Part [] = Unit {0}
  Part (j ∷ js) = (LeadsOver E i j ⊎ Unit {0}) × Part js

  -- those that are led to
  abbrev reached : (js : List (Instance N)) → Part js → List (Instance N)
  reached [] p = []
  reached (j ∷ js) (inl l, p) = j ∷ reached js p
  reached (j ∷ js) (inr u, p) = reached js p

  abbrev opens : (js : List (Instance N)) → Part js → ℕ
  opens [] p = 0
  opens (j ∷ js) (inl l, p) = opens js p
  opens (j ∷ js) (inr u, p) = suc (opens js p)

  none_yet : (js : List (Instance N)) → Part js
  none_yet [] = tt
  none_yet (j ∷ js) = (inr tt, none_yet js)

  -- one more
  abbrev with_one : (js : List (Instance N)) → Part js → (k : Instance N) → Among k js → LeadsOver E i k → Part js
  with_one [] p k h l = p
  with_one (j ∷ js) (x, p) k (inl e) l = (inl (subst (λ z. LeadsOver E i z) e l), p)
  with_one (j ∷ js) (x, p) k (inr h) l = (x, with_one js p k h l)

  -- it is there, or there is one more
  there_or_more : (js : List (Instance N)) (p : Part js) (k : Instance N) (h : Among k js) (l : LeadsOver E i k) →
      Among k (reached js p) ⊎ (suc (opens js (with_one js p k h l)) ≡ opens js p)
  there_or_more [] p k h l = absurd h
  there_or_more (j ∷ js) (inl x, p) k (inl e) l = inl (inl e)
  there_or_more (j ∷ js) (inr u, p) k (inl e) l = inr refl
  there_or_more (j ∷ js) (inl x, p) k (inr h) l =
      elim (there_or_more js p k h l) [ inl a ↦ inl (inr a) | inr e ↦ inr e ]
  there_or_more (j ∷ js) (inr u, p) k (inr h) l =
      elim (there_or_more js p k h l) [ inl a ↦ inl a | inr e ↦ inr (ap suc e) ]

  abbrev Better : Part all → Type 0
  Better p = (r : Part all) × (suc (opens all r) ≡ opens all p)

  all_or_more : (p : Part all) (ks : List (Instance N)) → ((k : Instance N) → Among k ks → LeadsOver E i k) →
      AllAmong ks (reached all p) ⊎ Better p
  all_or_more p [] h = inl tt
  all_or_more p (k ∷ ks) h =
      let l = h k (inl refl) in
      elim (there_or_more all p k (place k l) l) [
        | inr e ↦ inr (with_one all p k (place k l) l, e)
        | inl a ↦ elim (all_or_more p ks (λ m n. h m (inr n))) [ inl rest ↦ inl (a, rest) | inr b ↦ inr b ]
      ]

  closed_or_more : (p : Part all) (js : List (Instance N)) (r : Part js) →
      FormedIn E (reached all p) (reached js r) ⊎ Better p
  closed_or_more p [] r = inl tt
  closed_or_more p (j ∷ js) (inr u, r) = closed_or_more p js r
  closed_or_more p (j ∷ js) (inl l, r) =
      let (f, y) = formed j l in
      elim (all_or_more p (atoms f) (λ k a. one_further E i j k f y a l)) [
        | inr b ↦ inr b
        | inl m ↦ elim (closed_or_more p js r) [ inl rest ↦ inl ((f, y, m), rest) | inr b ↦ inr b ]
      ]

  abbrev Closed : Type 0
  Closed = (list : List (Instance N)) × FormedIn E list list × Among i list

  whole_or_more : (p : Part all) → Closed ⊎ Better p
  whole_or_more p = elim
      (all_or_more p (i ∷ [])
      (λ k a. elim a [ inl e ↦ subst (λ z. LeadsOver E i z) (sym e) (stays i) | inr u ↦ absurd u ])) [
        | inr b ↦ inr b
        | inl (a, u) ↦ elim (closed_or_more p all p) [ inl l ↦ inl (reached all p, l, a) | inr b ↦ inr b ]
      ]

  steps : (n : ℕ) (p : Part all) → opens all p ≡ n → Closed
  steps zero p e = elim
      (whole_or_more p) [ inl c ↦ c | inr (r, f) ↦ absurd (let q : suc (opens all r) ≡ zero = f ∙ e in cc) ]
  steps (suc n) p e = elim
      (whole_or_more p) [ inl c ↦ c | inr (r, f) ↦ steps n r (let q : suc (opens all r) ≡ suc n = f ∙ e in cc) ]

  pub closure : Closed
  closure = steps (opens all (none_yet all)) (none_yet all) refl

-- what is demanded by an equation that has a formula has a value
demanded_valued : {N A : Type 0} (look : Contents N) (forms : Forms N) (n : ℕ) (i : Instance N) (r : Run N A) (a : A)
    (j : Instance N) → Ends look (HoldsAt look forms n) i r (Made a) →
    Reaches look (HasValue look forms) r j → (v : Value N) × HasValue look forms j v
demanded_valued look forms n i (Gives b) a j x c = absurd c
demanded_valued look forms n i (Fails f) a j x c = absurd c
demanded_valued look forms n i (Looks l k) a j x c = demanded_valued look forms n i (k (look l)) a j x c
demanded_valued look forms n i (Demands m k) a j (inl (v, h, x)) (inl s) =
    (v, (n, subst (λ z. HoldsAt look forms n z (Finds v)) s h))
demanded_valued look forms n i (Demands m k) a j (inr (f, at, h, e)) c = absurd cc
demanded_valued look forms n i (Demands m k) a j (inl (v, h, x)) (inr (w, (d, g), c)) =
    let q : Finds w ≡ Finds v = once_at look forms d n m (Finds w) (Finds v) g h in let q' : w ≡ v = cc in
    demanded_valued look forms n i (k v) a j x (subst (λ z. Reaches look (HasValue look forms) (k z) j) q' c)

pub leads_by : {N : Type 0} (look : Contents N) (forms : Forms N) (n : ℕ) (i j : Instance N) →
    LeadsOver (EndsAt look forms n) i j → Leads look forms i j
leads_by look forms n _ _ (stays i) = led.stays i
leads_by look forms n _ _ (goes i j k f h a l) = led.goes i j k (inr (f, (n, h), a)) (leads_by look forms n j k l)

module _ {N : Type 0} (look : Contents N) (forms : Forms N)
    (circular : (i k : Instance N) (f : Formula N) → HasForm look forms i f → Among k (atoms f) →
    (b : Bool) × (forms.starts k.attribute ≡ Some b)) (Listed : Instance N → Type 0)
    (list : (i : Instance N) → Listed i →
    (all : List (Instance N)) × ((k : Instance N) → Leads look forms i k → Among k all)) (goes_on :
    (i j : Instance N) → Listed i → Comes look forms i j → Listed j) where
  -- an instance of a formula of one that has a value has one
  atom_valued : (n : ℕ) (i j : Instance N) → Listed i → AreFormed (EndsAt look forms n) i → (f : Formula N) →
      HasForm look forms i f → Among j (atoms f) → (v : Value N) × HasValue look forms j v
  atom_valued n i j ok c f (m, x) a =
      let (all, place) = list i ok in
      let (whole, l, h) = closure (EndsAt look forms n) i c all (λ k r. place k (leads_by look forms n i k r)) in
      let (g, y) = c i (stays i) in
      let q : Made f ≡ Made g = ends_at look forms m n i (Made f) (Made g) x y in let q' : f ≡ g = cc in
      let there = led_within (EndsAt look forms n) (ends_at look forms n n) whole
      (all_end (EndsAt look forms n) whole whole l) i j h
      (goes i j j g y (subst (λ z. Among j (atoms z)) q' a) (stays j)) in
      let (b, e) = circular i j f (m, x) a in
      let (v, z) = valued_by look forms n j b (forms.starts j.attribute) e
      (decided (EndsAt look forms n) (ends_at look forms n n) whole b l j there) in
      (v, (suc n, (are_formed (EndsAt look forms n) (ends_at look forms n n) whole l j there, z)))

  comes_valued : (i j : Instance N) (v : Value N) → Listed i → HasValue look forms i v → Comes look forms i j →
      (w : Value N) × HasValue look forms j w
  comes_valued i j v ok (zero, x) c = absurd x
  comes_valued i j v ok (suc n, (c, x)) (inl r) = let (f, y) = c i (stays i) in
      demanded_valued look forms n i (forms.formula i) f j y r
  comes_valued i j v ok (suc n, (c, x)) (inr (f, y, a)) = atom_valued n i j ok c f y a

  -- what has a value leads to what has values
  pub leads_valued : (i j : Instance N) (v : Value N) → Listed i → HasValue look forms i v → Leads look forms i j →
      (w : Value N) × HasValue look forms j w
  leads_valued _ _ v ok h (led.stays i) = (v, h)
  leads_valued _ _ v ok h (led.goes i m j c l) = let (w, g) = comes_valued i m v ok h c in
      leads_valued m j w (goes_on i m ok c) g l

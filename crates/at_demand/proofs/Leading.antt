-- Where demand leads: on from one instance to the next, and to lazy instances that are kept, where each step leads to what is
-- kept or stays within what was found.
use Rattle.std.proofs.Common.{◌≡◌, ◌⊎◌, ℕ, zero, suc, List, inl, inr, sym, subst}
use Rattle.at_model.specs.Run.{Value, Instance, Location, Run, Gives, Fails, Looks, Demands, Contents, FaultKind}
use Rattle.at_model.specs.Follow.{Past, here, looked, told}
use Rattle.at_model.specs.Meaning.{Finds, Reaches, Among}
use Rattle.at_model.specs.of_fixpoints.Fixpoints.{Ends, HasValue, HoldsAt, Made, stays as stays_there}
use Rattle.at_model.specs.of_fixpoints.Formulas.{Forms}
use Rattle.at_model.specs.of_fixpoints.Resting.{Comes, Leads, stays, goes}
use Rattle.at_model.proofs.of_formulas.UniqueOutcomes.{once, once_at}
use Rattle.at_evaluate.proofs.LeadingOn.{leads_on}

module _ {N : Type 0} (look : Contents N) (forms : Forms N) where
  pub leads_next : (i j k : Instance N) → Leads look forms i j → Comes look forms j k → Leads look forms i k
  leads_next i j k led c = leads_on look forms i j k led (goes j k k c (stays k))

  -- from what was found, where its lazy instances and all below what was kept are kept now
  module _ (Within Kept Lazy Now : Instance N → Type 0)
      (next : (i j : Instance N) → Within i → Comes look forms i j → Kept j ⊎ Within j)
      (itself : (i : Instance N) → Within i → Lazy i → Now i)
      (below : (i j : Instance N) → Kept i → Leads look forms i j → Lazy j → Now j) where
    pub led_now : (i j : Instance N) → Within i → Leads look forms i j → Lazy j → Now j
    led_now _ _ w (stays i) lazy = itself i w lazy
    led_now _ j w (goes i m _ c more) lazy =
        elim (next i m w c) [ inl k ↦ below m j k more lazy | inr v ↦ led_now m j v more lazy ]

  -- what an evaluation demands that ends by a value has a value
  made_found : {A : Type 0} (n : ℕ) (i : Instance N) (r : Run N A) (a : A) (j : Instance N) →
      Ends look (HoldsAt look forms n) i r (Made a) → Reaches look (HasValue look forms) r j →
      (w : Value N) × HoldsAt look forms n j (Finds w)
  made_found n i (Gives b) a j x c = absurd c
  made_found n i (Fails f) a j x c = absurd c
  made_found n i (Looks l k) a j x c = made_found n i (k (look l)) a j x c
  made_found n i (Demands m k) a j (inl (v, h, x)) (inl s) =
      (v, subst (λ z. HoldsAt look forms n z (Finds v)) s h)
  made_found n i (Demands m k) a j (inr (f, at, h, x)) c = absurd cc
  made_found n i (Demands m k) a j (inl (v, h, x)) (inr (w, (d, g), c)) =
      let q : Finds w ≡ Finds v = once_at look forms d n m (Finds w) (Finds v) g h in
      let q' : w ≡ v = cc in
      made_found n i (k v) a j x (subst (λ z. Reaches look (HasValue look forms) (k z) j) q' c)

  -- instances under way, each of which demands another one or can't go on, have no value
  module _ (Open Stuck : Instance N → Type 0)
      (next : (i : Instance N) → Open i →
      Stuck i ⊎ ((j : Instance N) × Open j × Reaches look (HasValue look forms) (forms.formula i) j))
      (stuck : (i : Instance N) (v : Value N) → Stuck i → HasValue look forms i v → ⊥) where
    none_at : (n : ℕ) (i : Instance N) (v : Value N) → Open i → HoldsAt look forms n i (Finds v) → ⊥
    none_at zero i v o h = absurd h
    none_at (suc n) i v o h = elim (next i o) [
      | inl s ↦ stuck i v s (suc n, h)
      | inr (j, p, c) ↦
          let (f, x) = h.0 i (stays_there i) in
          let (w, g) = made_found n i (forms.formula i) f j x c in
          none_at n j w p g
    ]

    pub valueless : (i : Instance N) (v : Value N) → Open i → HasValue look forms i v → ⊥
    valueless i v o (n, h) = none_at n i v o h

  -- from instances under way, all that has a value lies behind what is done
  module _ (Open Done Lazy Now : Instance N → Type 0)
      (next : (i j : Instance N) → Open i → Comes look forms i j → Done j ⊎ Open j)
      (none : (i : Instance N) (v : Value N) → Open i → HasValue look forms i v → ⊥)
      (done : (i j : Instance N) → Done i → Leads look forms i j → Lazy j → Now j) where
    pub open_led : (i j : Instance N) (v : Value N) → Open i → Leads look forms i j → Lazy j → HasValue look forms j v → Now j
    open_led _ _ v o (stays i) lazy has = absurd (none i v o has)
    open_led _ j v o (goes i m _ c more) lazy has =
        elim (next i m o c) [ inl d ↦ done m j d more lazy | inr p ↦ open_led m j v p more lazy has ]

  same_value : (i : Instance N) (v w : Value N) → HasValue look forms i v → HasValue look forms i w → v ≡ w
  same_value i v w h g = let e : Finds v ≡ Finds w = once look forms i (Finds v) (Finds w) h g in cc

  -- an evaluation that has come to the demand of an instance with no value comes to that and to what it was told
  pub comes_before : {A : Type 0} (r s : Run N A) (n : Instance N) (k : Value N → Run N A) (js : List (Instance N)) (ls : List (Location N))
      (j : Instance N) → s ≡ Demands n k → ((v : Value N) → HasValue look forms n v → ⊥) →
      Past look (HasValue look forms) r js ls s → Reaches look (HasValue look forms) r j → Among j js ⊎ (j ≡ n)
  comes_before r s n k js ls j e none (here _) h = let h' = rw e at h in elim h' [ inl same ↦ inr (sym same) | inr (v, has, more) ↦ absurd (none v has) ]
  comes_before r s n k js ls j e none (looked m h p) c = comes_before (h (look m)) s n k _ _ j e none p c
  comes_before r s n k js ls j e none (told i h w is p) (inl same) = inl (inl (sym same))
  comes_before r s n k js ls j e none (told i h w is p) (inr (u, has, c)) =
      elim (comes_before (h w) s n k _ _ j e none p (subst (λ x. Reaches look (HasValue look forms) (h x) j) (same_value i u w has is) c)) [ inl a ↦ inl (inr a) | inr same ↦ inr same ]

  -- and one that has come to a fault comes to what it was told
  pub comes_failed : {A : Type 0} (r s : Run N A) (f : FaultKind) (js : List (Instance N)) (ls : List (Location N)) (j : Instance N) →
      s ≡ Fails f → Past look (HasValue look forms) r js ls s → Reaches look (HasValue look forms) r j → Among j js
  comes_failed r s f js ls j e (here _) h = let h' = rw e at h in absurd h'
  comes_failed r s f js ls j e (looked m h p) c = comes_failed (h (look m)) s f _ _ j e p c
  comes_failed r s f js ls j e (told i h w is p) (inl same) = inl (sym same)
  comes_failed r s f js ls j e (told i h w is p) (inr (u, has, c)) = inr (comes_failed (h w) s f _ _ j e p (subst (λ x. Reaches look (HasValue look forms) (h x) j) (same_value i u w has is) c))

-- What an evaluation under way tells, once it is past values that hold: what it comes to, and its outcome at its end.
use Rattle.std.proofs.Common.{◌≡◌, ℕ, suc, ◌+◌, List, [], ◌∷◌, ◌++◌, None, inl, inr, refl, sym, ◌∙◌, subst, append_assoc, append-nil, arith}
use Rattle.at_model.specs.Run.{Value, Location, Run, Gives, Fails, Looks, Demands, Instance, Contents, FaultKind}
use Rattle.at_model.specs.Follow.{Reached, follow, Past, here, looked, told}
use Rattle.at_model.specs.Meaning.{Finds, Faults, Reaches, Among}
use Rattle.at_model.specs.of_fixpoints.Formulas.{Formula, Known, Forms, atoms}
use Rattle.at_model.specs.of_fixpoints.Fixpoints.{End, Made, Spoilt, Ends, LeadsOver, stays, goes, spoilt, HoldsOver, HoldsAt, EndsAt, EndsSo, Holds, HasValue}
use Rattle.at_model.proofs.of_formulas.Heights.{higher, ends_more}
use Rattle.at_model.proofs.of_formulas.UniqueOutcomes.{ends_at}
use Rattle.at_demand.specs.UnderWay.{left_of}

-- it comes there by looks alone
abbrev pub Onto : {N A : Type 0} → Contents N → (Instance N → Value N → Type 0) → List (Location N) → Run N A → Reached N A × List (Location N) → Type 0
Onto {N} tree has seen r end = (new : List (Location N)) × (end.1 ≡ seen ++ new) × Past tree has r [] new (left_of end.0)

pub onto : {N A : Type 0} (tree : Contents N) (has : Instance N → Value N → Type 0) (seen : List (Location N)) (r : Run N A) → Onto tree has seen r (follow tree seen r)
onto tree has seen (Gives a) = ([], sym (append-nil seen), here (Gives a))
onto tree has seen (Fails f) = ([], sym (append-nil seen), here (Fails f))
onto tree has seen (Demands i h) = ([], sym (append-nil seen), here (Demands i h))
onto tree has seen (Looks l h) =
    let (new, grows, past) = onto tree has (seen ++ l ∷ []) (h (tree l)) in (l ∷ new, grows ∙ append_assoc seen (l ∷ []) new, looked l h past)

pub past_past : {N A : Type 0} (tree : Contents N) (has : Instance N → Value N → Type 0) (r s t : Run N A) (js is : List (Instance N)) (ls ms : List (Location N)) →
    Past tree has r js ls s → Past tree has s is ms t → Past tree has r (js ++ is) (ls ++ ms) t
past_past tree has r s t js is ls ms (here _) q = q
past_past tree has r s t js is ls ms (looked l k p) q = looked l k (past_past tree has _ s t _ is _ ms p q)
past_past tree has r s t js is ls ms (told j k v h p) q = told j k v h (past_past tree has _ s t _ is _ ms p q)

-- from the beginning
pub begins : {N A : Type 0} (tree : Contents N) (has : Instance N → Value N → Type 0) (r : Run N A) (e : Reached N A) (ls : List (Location N)) → follow tree [] r ≡ (e, ls) → (js : List (Instance N)) × Past tree has r js ls (left_of e)
begins {N} {A} tree has r e ls is =
    let P : Reached N A × List (Location N) → Type 0 = λ x. Onto tree has [] r x in
    let (new, grows, past) = subst P is (onto tree has [] r) in
    ([], subst (λ x. Past tree has r [] x (left_of e)) (sym grows) past)

-- and on from a demand that is told a value
pub goes_on : {N A : Type 0} (tree : Contents N) (has : Instance N → Value N → Type 0) (r : Run N A) (j : Instance N) (k : Value N → Run N A) (v : Value N) (js : List (Instance N)) (ls ms : List (Location N)) (e : Reached N A) →
    Past tree has r js ls (Demands j k) → has j v → follow tree ls (k v) ≡ (e, ms) → (is : List (Instance N)) × Past tree has r is ms (left_of e)
goes_on {N} {A} tree has r j k v js ls ms e past h is =
    let P : Reached N A × List (Location N) → Type 0 = λ x. Onto tree has ls (k v) x in
    let (new, grows, more) = subst P is (onto tree has ls (k v)) in
    (js ++ j ∷ [], subst (λ x. Past tree has r (js ++ j ∷ []) x (left_of e)) (sym grows) (past_past tree has r (Demands j k) (left_of e) js (j ∷ []) ls new past (told j k v h more)))

-- it comes to the demand that it waits at
pub comes : {N A : Type 0} (tree : Contents N) (has : Instance N → Value N → Type 0) (r : Run N A) (j : Instance N) (k : Value N → Run N A) (js : List (Instance N)) (ls : List (Location N)) (s : Run N A) → s ≡ Demands j k → Past tree has r js ls s → Reaches tree has r j
comes tree has r j k js ls s e (here _) = rw e (inl refl)
comes tree has r j k js ls s e (looked l h p) = comes tree has _ j k _ _ s e p
comes tree has r j k js ls s e (told i h v is p) = inr (v, is, comes tree has _ j k _ _ s e p)

module _ {N : Type 0} (look : Contents N) (forms : Forms N) where
  -- the evaluation ends so, by demands that nest so deep
  abbrev pub EndsIn : {A : Type 0} → Instance N → Run N A → End N A → Type 0
  EndsIn i r e = (n : ℕ) × Ends look (HoldsAt look forms n) i r e

  -- what is left ends as the whole
  pub ends_past : {A : Type 0} (i : Instance N) (e : End N A) (r s : Run N A) (js : List (Instance N)) (ls : List (Location N)) → Past look (HasValue look forms) r js ls s → EndsIn i s e → EndsIn i r e
  ends_past i e r s js ls (here _) h = h
  ends_past i e r s js ls (looked l k p) h = ends_past i e (k (look l)) s _ _ p h
  ends_past i e r s js ls (told j k v (d, g) p) h =
      let (n, y) = ends_past i e (k v) s _ _ p h in
      let q : n + d ≡ d + n = omega arith in (
        d + n,
        inl (
          v,
          higher look forms d n j (Finds v) g,
          subst (λ z. Ends look (HoldsAt look forms z) i (k v) e) q
              (ends_more look (HoldsAt look forms n) (HoldsAt look forms (n + d)) (λ m o z. higher look forms n d m o z) i (k v) e y),
        ),
      )

  -- what ends by a value, or a fault, leads to nothing else
  formed_alone : (n : ℕ) (i j : Instance N) (v : Value N) → EndsAt look forms n i (Made (Known v)) → LeadsOver (EndsAt look forms n) i j → (f : Formula N) × EndsAt look forms n j (Made f)
  formed_alone n _ _ v h (stays i) = (Known v, h)
  formed_alone n _ j v h (goes i m _ f x a l) =
      let q : Made (Known v) ≡ Made f = ends_at look forms n n i (Made (Known v)) (Made f) h x in
      let p : Known v ≡ f = cc in
      absurd (subst (λ z. Among m (atoms z)) (sym p) a)

  ended_alone : (n : ℕ) (i j : Instance N) (k : FaultKind) (at : Instance N) → EndsAt look forms n i (Spoilt k at) → LeadsOver (EndsAt look forms n) i j → (e : End N (Formula N)) × EndsAt look forms n j e
  ended_alone n _ _ k at h (stays i) = (Spoilt k at, h)
  ended_alone n _ j k at h (goes i m _ f x a l) =
      let q : Spoilt k at ≡ Made f = ends_at look forms n n i (Spoilt k at) (Made f) h x in absurd cc

  -- the value of one that isn't circular is that by which its equation ends
  pub value_by_end : (i : Instance N) (v : Value N) → forms.starts i.attribute ≡ None → EndsSo look forms i (Made (Known v)) → HasValue look forms i v
  value_by_end i v none (n, h) =
      (suc n, subst (λ z. HoldsOver (EndsAt look forms n) z i (Finds v)) (sym none) ((λ j l. formed_alone n i j v h l), h))

  -- and so is the fault of any one
  pub fault_by_end : (i : Instance N) (k : FaultKind) (at : Instance N) → EndsSo look forms i (Spoilt k at) → Holds look forms i (Faults k at)
  fault_by_end i k at (n, h) = (suc n, ((λ j l. ended_alone n i j k at h l), spoilt i (λ a. a) h))

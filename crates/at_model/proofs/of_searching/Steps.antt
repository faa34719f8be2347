-- The steps of a search on its tree.
use Rattle.std.proofs.Common.{◌⊎◌, List, [], ◌∷◌, ◌++◌, inl, inr, refl, sym, subst}
use Rattle.at_model.specs.Run.{Instance, Contents, FaultKind}
use Rattle.at_model.specs.Meaning.{Among}
use Rattle.at_model.proofs.Reached.{front_among, back_among, either_among}
use Rattle.at_model.specs.of_fixpoints.Formulas.{Formula, atoms, Forms}
use Rattle.at_model.specs.of_fixpoints.Fixpoints.{End, Made, Spoilt, LeadsOver, stays, goes, Meets, EndsSo, HasValue}
use Rattle.at_model.specs.of_fixpoints.Fixpoints as meets
use Rattle.at_model.specs.of_fixpoints.Circles.{HasNone, IsOpen, Closes, comes_back, deeper, WantsNone}
use Rattle.at_model.specs.of_fixpoints.Circles as closes
use Rattle.at_model.specs.of_fixpoints.Searching.{asked_in}
use Rattle.at_model.specs.of_fixpoints.Searched.{IsMade, AreClosed, IsWhole, HasMet, HasCome}
use Rattle.at_model.proofs.of_formulas.UniqueOutcomes.{one_further}
use Rattle.at_model.proofs.of_searching.Thinning.{IsTold}
use Rattle.at_model.proofs.of_searching.PassedFaults.{IsFormed, meets_past}
use Rattle.at_model.proofs.of_searching.PassedCircles.{ends_one, closes_past}
use Rattle.at_model.proofs.of_searching.InOrder.{begins_in_order, passed_in_order, seen_in_order}

module _ {N : Type 0} (look : Contents N) (forms : Forms N) (told : IsTold (Instance N)) where
  -- a search as it begins
  pub has_begun : (below : List (Instance N)) (q : Instance N) → HasCome look forms below q [] (q ∷ [])
  has_begun below q = record {
    closes = λ j x. x;
    meets = inr (λ k at x. x);
    ended = λ i h. absurd h;
    shut = λ i h. absurd h;
    order = begins_in_order (EndsSo look forms) (ends_one look forms) (IsWhole look forms) q;
    led = λ i h. elim h [ inl e ↦ subst (λ z. LeadsOver (EndsSo look forms) q z) (sym e) (stays q) | inr u ↦ absurd u ];
  }

  pub formed_of : (W : List (Instance N)) → AreClosed (EndsSo look forms) IsMade W → IsFormed (EndsSo look forms) W
  formed_of W c j h = let x = c j h in made x.end x.ends x.good x.next
    where
      made : (e : End N (Formula N)) → EndsSo look forms j e → IsMade e → ((k : Instance N) → Among k (asked_in e) → Among k W) →
          (f : Formula N) × EndsSo look forms j (Made f) × ((k : Instance N) → Among k (atoms f) → Among k W)
      made (Made f) y g n = (f, y, n)
      made (Spoilt k at) y g n = absurd g

  -- the first one to do is passed: it was seen, or is whole, and what is whole has an outcome
  pub has_passed : (below : List (Instance N)) (q : Instance N) (seen : List (Instance N)) (c : Instance N)
      (todo : List (Instance N)) → ((i : Instance N) → IsWhole look forms i → HasNone look forms i → ⊥) →
      HasCome look forms below q seen (c ∷ todo) → Among c seen ⊎ IsWhole look forms c →
      HasCome look forms below q seen todo
  has_passed below q seen c todo valued s p = record {
    closes = λ j x. s.closes j (closed j x);
    meets = elim s.meets [ inl m ↦ inl m | inr m ↦ inr (λ k at x. m k at (met k at x)) ];
    ended = s.ended;
    shut = s.shut;
    order = passed_in_order (EndsSo look forms) (ends_one look forms) (IsWhole look forms) seen c todo s.order p;
    led = λ i h. elim (either_among i seen todo h) [
      | inl a ↦ s.led i (front_among i seen (c ∷ todo) a)
      | inr a ↦ s.led i (back_among i seen (c ∷ todo) (inr a))
    ];
  }
    where
      whole_valued : (W : List (Instance N)) → AreClosed (EndsSo look forms) IsMade W → (i : Instance N) → Among i W →
          HasNone look forms i → ⊥
      whole_valued W w i h n = valued i (W, w, h) n

      closed : (j : Instance N) → Closes look forms below seen todo j → Closes look forms below seen (c ∷ todo) j
      closed j x = elim p [
        | inl a ↦ closes.again c (s.shut c a) a x
        | inr (W, w, h) ↦ closes_past look forms told W (formed_of W w) (whole_valued W w) c below seen todo h x
      ]

      met : (k : FaultKind) (at : Instance N) → Meets (EndsSo look forms) seen todo k at →
          Meets (EndsSo look forms) seen (c ∷ todo) k at
      met k at x = elim p [
        | inl a ↦ meets.again c a x
        | inr (W, w, h) ↦ meets_past (EndsSo look forms) (ends_one look forms) told W (formed_of W w) c seen todo h x
      ]

  -- the equation of the first one to do has ended so
  pub has_seen : (below : List (Instance N)) (q : Instance N) (seen : List (Instance N)) (c : Instance N)
      (todo : List (Instance N)) (e : End N (Formula N)) → EndsSo look forms c e → (¬ (Among c seen)) →
      (¬ (IsOpen look forms below c)) → HasCome look forms below q seen (c ∷ todo) →
      HasCome look forms below q (c ∷ seen) (asked_in e ++ todo)
  has_seen below q seen c todo e x fresh off s = record {
    closes = λ j y. s.closes j (closed e x j y);
    meets = elim s.meets [ inl m ↦ inl m | inr m ↦ met e x m ];
    ended = λ i h. elim h [
      | inl p ↦ subst (λ z. (d : End N (Formula N)) × EndsSo look forms z d) (sym p) (e, x)
      | inr a ↦ s.ended i a
    ];
    shut = λ i h. elim h [ inl p ↦ subst (λ z. ¬ (IsOpen look forms below z)) (sym p) off | inr a ↦ s.shut i a ];
    order = seen_in_order (EndsSo look forms) (ends_one look forms) (IsWhole look forms) seen c e todo x s.order;
    led = λ i h. elim h [
      | inl p ↦ subst (λ z. LeadsOver (EndsSo look forms) q z) (sym p) to_next
      | inr a ↦ elim (either_among i seen (asked_in e ++ todo) a) [
        | inl b ↦ s.led i (front_among i seen (c ∷ todo) b)
        | inr b ↦ elim (either_among i (asked_in e) todo b) [
          | inl d ↦ led_on e x i d
          | inr d ↦ s.led i (back_among i seen (c ∷ todo) (inr d))
        ]
      ]
    ];
  }
    where
      to_next : LeadsOver (EndsSo look forms) q c
      to_next = s.led c (back_among c seen (c ∷ todo) (inl refl))

      led_on : (d : End N (Formula N)) → EndsSo look forms c d → (i : Instance N) → Among i (asked_in d) →
          LeadsOver (EndsSo look forms) q i
      led_on (Made f) y i a = one_further (EndsSo look forms) q c i f y a to_next
      led_on (Spoilt k at) y i a = absurd a

      closed : (d : End N (Formula N)) → EndsSo look forms c d → (j : Instance N) →
          Closes look forms below (c ∷ seen) (asked_in d ++ todo) j → Closes look forms below seen (c ∷ todo) j
      closed (Made f) y j z = closes.formed c f off fresh y z
      closed (Spoilt k at) y j z = closes.spoilt c at k off fresh y z

      met : (d : End N (Formula N)) → EndsSo look forms c d → ((k : FaultKind) (at : Instance N) →
          Meets (EndsSo look forms) seen (c ∷ todo) k at → Meets (EndsSo look forms) [] (q ∷ []) k at) →
          HasMet look forms q ⊎ ((k : FaultKind) (at : Instance N) →
          Meets (EndsSo look forms) (c ∷ seen) (asked_in d ++ todo) k at → Meets (EndsSo look forms) [] (q ∷ []) k at)
      met (Made f) y m = inr (λ k at z. m k at (meets.formed c f fresh y z))
      met (Spoilt l to) y m = inl (l, to, m l to (meets.spoilt c fresh y))

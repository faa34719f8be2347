-- What holds at a depth holds at a greater one.
use Rattle.std.proofs.Common.{◌≡◌, ℕ, zero, suc, ◌+◌, inl, inr, refl, sym, ◌∙◌, subst, ap, arith}
use Rattle.at_model.specs.Run.{Value, Run, Gives, Fails, Looks, Demands, Contents, Instance}
use Rattle.at_model.specs.Meaning.{Outcome, Finds, Faults, Among}
use Rattle.at_model.proofs.Reached.{front_among, back_among}
use Rattle.at_model.proofs.of_likeness.CarryingCircles.{Agrees}
use Rattle.at_model.specs.of_fixpoints.Formulas.{Formula, Known, Asks, Both, Either, atoms, Forms}
use Rattle.at_model.specs.of_fixpoints.Fixpoints.{End, Made, Spoilt, Ends, stays, goes, AreEnded, HoldsAt, EndsAt}
use Rattle.at_model.proofs.of_formulas.UniqueOutcomes.{ends_at}
use Rattle.at_model.proofs.of_formulas.ClosedOnce.{ended}
use Rattle.at_model.proofs.of_formulas.Matching.{Matches, knows, wants, joins, chooses, EndMatches, makes, spoils, OutcomeMatches, finds, faults, AreMatched, settled_on}

-- an evaluation ends alike where more is told
pub ends_more : {N A : Type 0} (look : Contents N) (H G : Instance N → Outcome N → Type 0) →
    ((j : Instance N) (o : Outcome N) → H j o → G j o) → (i : Instance N) (r : Run N A) (e : End N A) →
    Ends look H i r e → Ends look G i r e
ends_more look H G more i (Gives a) e x = x
ends_more look H G more i (Fails f) e x = x
ends_more look H G more i (Looks l k) e x = ends_more look H G more i (k (look l)) e x
ends_more look H G more i (Demands j k) e (inl (v, h, x)) =
    inl (v, more j (Finds v) h, ends_more look H G more i (k v) e x)
ends_more look H G more i (Demands j k) e (inr (f, at, h, x)) = inr (f, at, more j (Faults f at) h, x)

equals_agree : {A : Type 0} → Agrees {A = A} {B = A} (λ a b. a ≡ b)
equals_agree a b c d r s = (λ e. sym r ∙ e ∙ s, λ e. r ∙ e ∙ sym s)

module _ {N : Type 0} (look : Contents N) (forms : Forms N) (n m : ℕ)
    (more : (j : Instance N) (o : Outcome N) → HoldsAt look forms n j o → HoldsAt look forms m j o) where
  -- it is the same instance, and the equations of all to which formulas lead from it end
  abbrev Stays : Instance N → Instance N → Type 0
  Stays j k = (j ≡ k) × AreEnded (EndsAt look forms n) j

  abbrev Same : Instance N → Instance N → Type 0
  Same j k = j ≡ k

  abbrev Equal : Value N → Value N → Type 0
  Equal v w = v ≡ w

  match_self : (f : Formula N) → ((k : Instance N) → Among k (atoms f) → AreEnded (EndsAt look forms n) k) →
      Matches Stays Equal f f
  match_self (Known v) all = knows refl
  match_self (Asks i) all = wants (refl, all i (inl refl))
  match_self (Both f g) all =
      joins (match_self f (λ k h. all k (front_among k (atoms f) (atoms g) h)))
      (match_self g (λ k h. all k (back_among k (atoms f) (atoms g) h)))
  match_self (Either f g) all =
      chooses (match_self f (λ k h. all k (front_among k (atoms f) (atoms g) h)))
      (match_self g (λ k h. all k (back_among k (atoms f) (atoms g) h)))

  end_self : (j : Instance N) (d : End N (Formula N)) → AreEnded (EndsAt look forms n) j → EndsAt look forms n j d →
      EndMatches Stays Same Equal d d
  end_self j (Made f) c x = makes (match_self f (λ k h i l. c i (goes j k i f x h l)))
  end_self j (Spoilt k at) c x = spoils k refl

  more_ends : (j : Instance N) (d : End N (Formula N)) → EndsAt look forms n j d → EndsAt look forms m j d
  more_ends j d x = ends_more look (HoldsAt look forms n) (HoldsAt look forms m) more j (forms.formula j) d x

  raised_matched : AreMatched Stays Same Equal (EndsAt look forms n) (EndsAt look forms m)
  raised_matched = record {
    there = λ j k d s x. (d, subst (λ z. EndsAt look forms m z d) s.0 (more_ends j d x), end_self j d s.1 x);
    back = λ j k e s x.
        let (d, y) = s.1 j (stays j) in
        let q : d ≡ e = ends_at look forms n m j d e y (subst (λ z. EndsAt look forms m z e) (sym s.0) x) in
        (d, y, subst (λ z. EndMatches Stays Same Equal d z) q (end_self j d s.1 y));
    same = λ j k s. s.0;
    apart = equals_agree;
    truth = λ b. refl;
    is_truth = λ b w e. sym e;
    was_truth = λ b v e. e;
  }

  same_outcome : (o p : Outcome N) → OutcomeMatches Same Equal o p → o ≡ p
  same_outcome _ _ (finds e) = ap Finds e
  same_outcome _ _ (faults k e) = ap (Faults k) e

  raised : (i : Instance N) (o : Outcome N) → HoldsAt look forms (suc n) i o → HoldsAt look forms (suc m) i o
  raised i o h =
      let (p, y, l) = settled_on Stays Same Equal (EndsAt look forms n) (EndsAt look forms m) raised_matched i i
      (forms.starts i.attribute) o (refl, ended look forms n i (o, h)) h in
      subst (λ z. HoldsAt look forms (suc m) i z) (sym (same_outcome o p l)) y

pub higher : {N : Type 0} (look : Contents N) (forms : Forms N) (n d : ℕ) (i : Instance N) (o : Outcome N) →
    HoldsAt look forms n i o → HoldsAt look forms (n + d) i o
higher look forms zero d i o h = absurd h
higher look forms (suc n) d i o h =
    let q : suc n + d ≡ suc (n + d) = omega arith in
    subst (λ z. HoldsAt look forms z i o) (sym q) (raised look forms n (n + d) (higher look forms n d) i o h)

pub ends_higher : {N : Type 0} (look : Contents N) (forms : Forms N) (n d : ℕ) (i : Instance N)
    (e : End N (Formula N)) → EndsAt look forms n i e → EndsAt look forms (n + d) i e
ends_higher look forms n d i e x =
    ends_more look (HoldsAt look forms n) (HoldsAt look forms (n + d)) (higher look forms n d) i (forms.formula i) e x

-- Evaluations that are shortened come to the same.
use Rattle.std.proofs.Common.{◌≡◌, ℕ, zero, suc, Bool, true, false, cond, List, [], ◌∷◌, Option, Some, None, refl, sym, ap, subst, ◌⊎◌, inl, inr}
use Rattle.at_model.specs.Run.{Value, Instance, Contents, Run, Gives, Fails, Looks, Demands, ◌>>=◌, Valued, Needs, tried, Known}
use Rattle.at_model.specs.Bodies.{truth_of, exists_in, first_in}
use Rattle.at_model.specs.Meaning.{Outcome, Finds, Faults, value_in, Equations, settled, outcome_at, Holds}
use Rattle.at_model.specs.Drawers.{Key}
use Rattle.at_model.specs.Seeking.{those, is_in_drawer, Looking, Silent, Shortens, gives, fails, demands, looks_less, looks_more, demands_less, IsPlain, AreShortened, IsByKey}

-- one evaluation, and then another one -----------------------------------------------------------------------------------

pub then_shortens : {N A B : Type 0} (look : Contents N) (Plain : Instance N → Value N → Type 0) (r s : Run N A) (k h : A → Run N B)
    → Shortens look Plain r s → ((a : A) → Shortens look Plain (k a) (h a)) → Shortens look Plain (r >>= k) (s >>= h)
then_shortens look Plain _ _ k h (gives a) each = each a
then_shortens look Plain _ _ k h (fails f) each = fails f
then_shortens look Plain _ _ k h (demands i m n below) each = demands i _ _ (λ v. then_shortens look Plain (m v) (n v) k h (below v) each)
then_shortens look Plain _ _ k h (looks_less l m s rest) each = looks_less l _ _ (then_shortens look Plain (m (look l)) s k h rest each)
then_shortens look Plain _ _ k h (looks_more l r n rest) each = looks_more l _ _ (then_shortens look Plain r (n (look l)) k h rest each)
then_shortens look Plain _ _ k h (demands_less i v m s plain rest) each = demands_less i v _ _ plain (then_shortens look Plain (m v) s k h rest each)

pub itself : {N A : Type 0} (look : Contents N) (Plain : Instance N → Value N → Type 0) (r : Run N A) → Shortens look Plain r r
itself look Plain (Gives a) = gives a
itself look Plain (Fails f) = fails f
itself look Plain (Looks l k) = looks_more l _ _ (looks_less l _ _ (itself look Plain (k (look l))))
itself look Plain (Demands i k) = demands i _ _ (λ v. itself look Plain (k v))

-- what comes to its value silently may be left out
pub left_out : {N A B : Type 0} (look : Contents N) (Plain : Instance N → Value N → Type 0) (r : Run N A) (a : A) (k : A → Run N B) (s : Run N B)
    → Silent look Plain r a → Shortens look Plain (k a) s → Shortens look Plain (r >>= k) s
left_out look Plain (Gives b) a k s e rest = subst (λ x. Shortens look Plain (k x) s) (sym e) rest
left_out look Plain (Fails f) a k s e rest = absurd e
left_out look Plain (Looks l m) a k s e rest = looks_less l _ _ (left_out look Plain (m (look l)) a k s e rest)
left_out look Plain (Demands i m) a k s (v, plain, e) rest = demands_less i v _ _ plain (left_out look Plain (m v) a k s e rest)

-- folds -----------------------------------------------------------------------------------------------------------------

by_truth : {N A : Type 0} (look : Contents N) (Plain : Instance N → Value N → Type 0) (b : Bool) (x y x' y' : Run N A)
    → Shortens look Plain x x' → Shortens look Plain y y' → Shortens look Plain (cond b x y) (cond b x' y')
by_truth look Plain true x y x' y' p q = p
by_truth look Plain false x y x' y' p q = q

not_so : {N A : Type 0} (look : Contents N) (Plain : Instance N → Value N → Type 0) (b : Bool) (x y s : Run N A) → b ≡ false → Shortens look Plain y s → Shortens look Plain (cond b x y) s
not_so look Plain true x y s e p = absurd cc
not_so look Plain false x y s e p = p

module _ {N : Type 0} (look : Contents N) (Plain : Instance N → Value N → Type 0) (key : Key) (m : ℕ) (test also : N → Run N (Value N))
    (same : (n : N) → Shortens look Plain (test n) (also n)) where
  pub first_shortens : (ns : List N) → IsByKey look Plain key m test ns → Shortens look Plain (first_in test ns) (first_in also (those (is_in_drawer look key m) ns))
  first_shortens [] by_key = gives _
  first_shortens (n ∷ ns) by_key = by_place (is_in_drawer look key m n) refl (first_shortens ns (λ x among off. by_key x (inr among) off))
    where
      by_place : (b : Bool) → is_in_drawer look key m n ≡ b → Shortens look Plain (first_in test ns) (first_in also (those (is_in_drawer look key m) ns))
          → Shortens look Plain (first_in test (n ∷ ns)) (first_in also (cond b (n ∷ those (is_in_drawer look key m) ns) (those (is_in_drawer look key m) ns)))
      by_place true e rest = then_shortens look Plain (test n) (also n) _ _ (same n) (λ v. by_truth look Plain (truth_of v) _ _ _ _ (gives _) rest)
      by_place false e rest =
          let (v, silent, off) = by_key n (inl refl) e in
          left_out look Plain (test n) v _ _ silent (not_so look Plain (truth_of v) _ _ _ off rest)

  pub exists_shortens : (ns : List N) → IsByKey look Plain key m test ns → Shortens look Plain (exists_in test ns) (exists_in also (those (is_in_drawer look key m) ns))
  exists_shortens [] by_key = gives _
  exists_shortens (n ∷ ns) by_key = by_place (is_in_drawer look key m n) refl (exists_shortens ns (λ x among off. by_key x (inr among) off))
    where
      by_place : (b : Bool) → is_in_drawer look key m n ≡ b → Shortens look Plain (exists_in test ns) (exists_in also (those (is_in_drawer look key m) ns))
          → Shortens look Plain (exists_in test (n ∷ ns)) (exists_in also (cond b (n ∷ those (is_in_drawer look key m) ns) (those (is_in_drawer look key m) ns)))
      by_place true e rest = then_shortens look Plain (test n) (also n) _ _ (same n) (λ v. by_truth look Plain (truth_of v) _ _ _ _ (gives _) rest)
      by_place false e rest =
          let (v, silent, off) = by_key n (inl refl) e in
          left_out look Plain (test n) v _ _ silent (not_so look Plain (truth_of v) _ _ _ off rest)

-- outcomes --------------------------------------------------------------------------------------------------------------

looked : {N A : Type 0} (look : Contents N) (known : Known N) (r : Run N A) (a : A) → Looking look r a → tried look known r ≡ Valued a
looked look known (Gives b) a e = ap Valued e
looked look known (Fails f) a e = absurd e
looked look known (Looks l k) a e = looked look known (k (look l)) a e
looked look known (Demands i k) a e = absurd e

abbrev Told : {N : Type 0} → (Instance N → Option (Outcome N)) → Known N
Told below j = value_in (below j)

abbrev Keeps : {N : Type 0} → (Instance N → Option (Outcome N)) → (Instance N → Option (Outcome N)) → Type 0
Keeps {N} below also = (j : Instance N) (o : Outcome N) → below j ≡ Some o → also j ≡ Some o

differ : {N : Type 0} (p : Option (Outcome N)) (o : Outcome N) → p ≡ None → p ≡ Some o → ⊥
differ None o e f = cc
differ (Some q) o e f = cc

module _ {N : Type 0} (look : Contents N) (Plain : Instance N → Value N → Type 0) (one two : Instance N → Option (Outcome N)) (i : Instance N) where
  -- where what the first ones come to the second ones do, too, and of those that are left out the first ones know the value, or nothing
  pub forward : Keeps one two → ((j : Instance N) (v : Value N) → Plain j v → (one j ≡ None) ⊎ (one j ≡ Some (Finds v))) → (r s : Run N (Value N)) → Shortens look Plain r s
      → (o : Outcome N) → settled one i (tried look (Told one) r) ≡ Some o → settled two i (tried look (Told two) s) ≡ Some o
  forward keeps plain _ _ (gives a) o e = e
  forward keeps plain _ _ (fails f) o e = e
  forward keeps plain _ _ (looks_less l k s rest) o e = forward keeps plain (k (look l)) s rest o e
  forward keeps plain _ _ (looks_more l r h rest) o e = forward keeps plain r (h (look l)) rest o e
  forward keeps plain _ _ (demands j k h below) o e = by_outcome (one j) refl e (λ v. forward keeps plain (k v) (h v) (below v) o)
    where
      by_outcome : (p : Option (Outcome N)) → one j ≡ p → settled one i (elim (value_in p) [ None ↦ Needs j | Some v ↦ tried look (Told one) (k v) ]) ≡ Some o
          → ((v : Value N) → settled one i (tried look (Told one) (k v)) ≡ Some o → settled two i (tried look (Told two) (h v)) ≡ Some o)
          → settled two i (elim (value_in (two j)) [ None ↦ Needs j | Some v ↦ tried look (Told two) (h v) ]) ≡ Some o
      by_outcome None is e more = absurd (differ (one j) o is e)
      by_outcome (Some (Finds v)) is e more =
          subst (λ (p : Option (Outcome N)). settled two i (elim (value_in p) [ None ↦ Needs j | Some v ↦ tried look (Told two) (h v) ]) ≡ Some o) (sym (keeps j (Finds v) is))
          (more v e)
      by_outcome (Some (Faults f m)) is e more =
          subst (λ (p : Option (Outcome N)). settled two i (elim (value_in p) [ None ↦ Needs j | Some v ↦ tried look (Told two) (h v) ]) ≡ Some o) (sym (keeps j (Faults f m) is))
          (keeps j o e)
  forward keeps plain _ _ (demands_less j v k s known rest) o e = by_plain (plain j v known) (forward keeps plain (k v) s rest o)
    where
      by_plain : (one j ≡ None) ⊎ (one j ≡ Some (Finds v)) → (settled one i (tried look (Told one) (k v)) ≡ Some o → settled two i (tried look (Told two) s) ≡ Some o)
          → settled two i (tried look (Told two) s) ≡ Some o
      by_plain (inl none) more = absurd (differ (one j) o none
          (subst (λ (p : Option (Outcome N)). settled one i (elim (value_in p) [ None ↦ Needs j | Some v ↦ tried look (Told one) (k v) ]) ≡ Some o) none e))
      by_plain (inr some) more = more
          (subst (λ (p : Option (Outcome N)). settled one i (elim (value_in p) [ None ↦ Needs j | Some v ↦ tried look (Told one) (k v) ]) ≡ Some o) some e)

  -- where what the second ones come to the first ones do, too, and of those that are left out the first ones know the value
  pub backward : Keeps two one → ((j : Instance N) (v : Value N) → Plain j v → one j ≡ Some (Finds v)) → (r s : Run N (Value N)) → Shortens look Plain r s
      → (o : Outcome N) → settled two i (tried look (Told two) s) ≡ Some o → settled one i (tried look (Told one) r) ≡ Some o
  backward keeps plain _ _ (gives a) o e = e
  backward keeps plain _ _ (fails f) o e = e
  backward keeps plain _ _ (looks_less l k s rest) o e = backward keeps plain (k (look l)) s rest o e
  backward keeps plain _ _ (looks_more l r h rest) o e = backward keeps plain r (h (look l)) rest o e
  backward keeps plain _ _ (demands j k h below) o e = by_outcome (two j) refl e (λ v. backward keeps plain (k v) (h v) (below v) o)
    where
      by_outcome : (p : Option (Outcome N)) → two j ≡ p → settled two i (elim (value_in p) [ None ↦ Needs j | Some v ↦ tried look (Told two) (h v) ]) ≡ Some o
          → ((v : Value N) → settled two i (tried look (Told two) (h v)) ≡ Some o → settled one i (tried look (Told one) (k v)) ≡ Some o)
          → settled one i (elim (value_in (one j)) [ None ↦ Needs j | Some v ↦ tried look (Told one) (k v) ]) ≡ Some o
      by_outcome None is e more = absurd (differ (two j) o is e)
      by_outcome (Some (Finds v)) is e more =
          subst (λ (p : Option (Outcome N)). settled one i (elim (value_in p) [ None ↦ Needs j | Some v ↦ tried look (Told one) (k v) ]) ≡ Some o) (sym (keeps j (Finds v) is))
          (more v e)
      by_outcome (Some (Faults f m)) is e more =
          subst (λ (p : Option (Outcome N)). settled one i (elim (value_in p) [ None ↦ Needs j | Some v ↦ tried look (Told one) (k v) ]) ≡ Some o) (sym (keeps j (Faults f m) is))
          (keeps j o e)
  backward keeps plain _ _ (demands_less j v k s known rest) o e =
      subst (λ (p : Option (Outcome N)). settled one i (elim (value_in p) [ None ↦ Needs j | Some v ↦ tried look (Told one) (k v) ]) ≡ Some o) (sym (plain j v known))
      (backward keeps plain (k v) s rest o e)

module _ {N : Type 0} (look : Contents N) (equation also : Equations N) (short : AreShortened look equation also) where
  pub plainly : (n : ℕ) (j : Instance N) (v : Value N) → IsPlain look equation also j v → outcome_at look equation (suc n) j ≡ Some (Finds v)
  plainly n j v plain = ap (settled (outcome_at look equation n) j) (looked look (λ k. value_in (outcome_at look equation n k)) (equation j) v plain.0)

  or_nothing : (n : ℕ) (j : Instance N) (v : Value N) → IsPlain look equation also j v → (outcome_at look equation n j ≡ None) ⊎ (outcome_at look equation n j ≡ Some (Finds v))
  or_nothing zero j v plain = inl refl
  or_nothing (suc n) j v plain = inr (plainly n j v plain)

  pub shortened_at : (n : ℕ) (i : Instance N) (o : Outcome N) → outcome_at look equation n i ≡ Some o → outcome_at look also n i ≡ Some o
  shortened_at zero i o e = absurd cc
  shortened_at (suc n) i o e =
      forward look (IsPlain look equation also) (outcome_at look equation n) (outcome_at look also n) i (shortened_at n) (or_nothing n) (equation i) (also i) (short i) o e

  pub lengthened_at : (n : ℕ) (i : Instance N) (o : Outcome N) → outcome_at look also n i ≡ Some o → outcome_at look equation (suc n) i ≡ Some o
  lengthened_at zero i o e = absurd cc
  lengthened_at (suc n) i o e =
      backward look (IsPlain look equation also) (outcome_at look equation (suc n)) (outcome_at look also n) i (lengthened_at n) (plainly n) (equation i) (also i) (short i) o e

  pub shortened_holds : (i : Instance N) (o : Outcome N) → Holds look equation i o → Holds look also i o
  shortened_holds i o (n, e) = (n, shortened_at n i o e)

  pub lengthened_holds : (i : Instance N) (o : Outcome N) → Holds look also i o → Holds look equation i o
  lengthened_holds i o (n, e) = (suc n, lengthened_at n i o e)

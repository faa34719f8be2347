-- Evaluations that go as others do but for what they leave out, where what comes back has its kind.
use Rattle.std.proofs.Common.{◌≡◌, ℕ, Bool, true, false, cond, not, List, [], ◌∷◌, refl, sym, ap, subst}
use Rattle.std.specs.List.{AllByRecursion}
use Rattle.std.specs.Prelude.{ℤ}
use Rattle.std.specs.Int.{w32, int_wrapping_add}
use Rattle.at_model.specs.Drawers.{Key}
use Rattle.at_model.specs.Run.{Value, Instance, Location, Content, Contents, FaultKind, Run, Gives, Fails, Looks, Demands, ◌>>=◌}
use Rattle.at_model.specs.Bodies.{truth_of, int_of, nodes_of, exists_in, first_in, sum_in, gather_in, with_more, bool_eq}
use Rattle.at_model.specs.Rules.{Rules}
use Rattle.at_model.specs.TypedRuns.{ClassAt, Texts, IsTypedRun, IsWellTyped, IsOfItsKind}
use Rattle.at_model.specs.Seeking.{those, is_in_drawer, Silent}
use Rattle.at_model.specs.of_fixpoints.Formulas.{Formula, Known, Both, Either, is_surely, is_known_as, joined, fold_form, two_sides}

-- The second evaluation goes as the first one does with whichever values fit, but for looks, which may be others, and for demands of
-- the first one that it leaves out: each of an instance with that value.
pub data Narrows {N A : Type 0} (look : Contents N) (Fits Plain : Instance N → Value N → Type 0) : Run N A → Run N A → Type 0 where
  gives : (a : A) → Narrows look Fits Plain (Gives a) (Gives a)
  fails : (f : FaultKind) → Narrows look Fits Plain (Fails f) (Fails f)
  demands : (i : Instance N) (k h : Value N → Run N A) → ((v : Value N) → Fits i v → Narrows look Fits Plain (k v) (h v)) → Narrows look Fits Plain (Demands i k) (Demands i h)
  looks_less : (l : Location N) (k : Content l → Run N A) (s : Run N A) → Narrows look Fits Plain (k (look l)) s → Narrows look Fits Plain (Looks l k) s
  looks_more : (l : Location N) (r : Run N A) (h : Content l → Run N A) → Narrows look Fits Plain r (h (look l)) → Narrows look Fits Plain r (Looks l h)
  demands_less : (i : Instance N) (v : Value N) (k : Value N → Run N A) (s : Run N A) → Plain i v → Narrows look Fits Plain (k v) s →
      Narrows look Fits Plain (Demands i k) s

module _ {N : Type 0} (look : Contents N) (Fits Plain : Instance N → Value N → Type 0) where
  pub by_itself : {A : Type 0} (r : Run N A) → Narrows look Fits Plain r r
  by_itself (Gives a) = gives a
  by_itself (Fails f) = fails f
  by_itself (Looks l k) = looks_more l _ _ (looks_less l _ _ (by_itself (k (look l))))
  by_itself (Demands i k) = demands i _ _ (λ v fits. by_itself (k v))

  pub by_equal : {A : Type 0} (r s : Run N A) → r ≡ s → Narrows look Fits Plain r s
  by_equal r s e = subst (λ x. Narrows look Fits Plain r x) e (by_itself r)

  pub both_look : {A : Type 0} (l : Location N) (k h : Content l → Run N A) → Narrows look Fits Plain (k (look l)) (h (look l))
      → Narrows look Fits Plain (Looks l k) (Looks l h)
  both_look l k h n = looks_more l _ _ (looks_less l _ _ n)

  pub then_narrows : {A B : Type 0} (r s : Run N A) (k h : A → Run N B)
      → Narrows look Fits Plain r s → ((a : A) → Narrows look Fits Plain (k a) (h a)) → Narrows look Fits Plain (r >>= k) (s >>= h)
  then_narrows _ _ k h (gives a) each = each a
  then_narrows _ _ k h (fails f) each = fails f
  then_narrows _ _ k h (demands i m n below) each = demands i _ _ (λ v fits. then_narrows (m v) (n v) k h (below v fits) each)
  then_narrows _ _ k h (looks_less l m s rest) each = looks_less l _ _ (then_narrows (m (look l)) s k h rest each)
  then_narrows _ _ k h (looks_more l r n rest) each = looks_more l _ _ (then_narrows r (n (look l)) k h rest each)
  then_narrows _ _ k h (demands_less i v m s plain rest) each = demands_less i v _ _ plain (then_narrows (m v) s k h rest each)

  -- where what comes behind changes nothing
  pub then_same : {A : Type 0} (h : A → A) → ((a : A) → h a ≡ a) → (r s : Run N A) → Narrows look Fits Plain r s → Narrows look Fits Plain (r >>= λ a. Gives (h a)) s
  then_same h is _ _ (gives a) = subst (λ x. Narrows look Fits Plain (Gives x) (Gives a)) (sym (is a)) (gives a)
  then_same h is _ _ (fails f) = fails f
  then_same h is _ _ (demands i m n below) = demands i _ _ (λ v fits. then_same h is (m v) (n v) (below v fits))
  then_same h is _ _ (looks_less l m s rest) = looks_less l _ _ (then_same h is (m (look l)) s rest)
  then_same h is _ _ (looks_more l r n rest) = looks_more l _ _ (then_same h is r (n (look l)) rest)
  then_same h is _ _ (demands_less i v m s plain rest) = demands_less i v _ _ plain (then_same h is (m v) s rest)

  -- what comes to its value silently may be left out
  pub left_out : {A B : Type 0} (r : Run N A) (a : A) (k : A → Run N B) (s : Run N B)
      → Silent look Plain r a → Narrows look Fits Plain (k a) s → Narrows look Fits Plain (r >>= k) s
  left_out (Gives b) a k s e rest = subst (λ x. Narrows look Fits Plain (k x) s) (sym e) rest
  left_out (Fails f) a k s e rest = absurd e
  left_out (Looks l m) a k s e rest = looks_less l _ _ (left_out (m (look l)) a k s e rest)
  left_out (Demands i m) a k s (v, plain, e) rest = demands_less i v _ _ plain (left_out (m v) a k s e rest)

  pub then_silent : {A B : Type 0} (r : Run N A) (a : A) (k : A → Run N B) (b : B) → Silent look Plain r a → Silent look Plain (k a) b → Silent look Plain (r >>= k) b
  then_silent (Gives x) a k b e rest = subst (λ z. Silent look Plain (k z) b) (sym e) rest
  then_silent (Fails f) a k b e rest = absurd e
  then_silent (Looks l m) a k b e rest = then_silent (m (look l)) a k b e rest
  then_silent (Demands i m) a k b (v, plain, e) rest = (v, plain, then_silent (m v) a k b e rest)

  pub by_truth : {A : Type 0} (b : Bool) (x y x' y' : Run N A)
      → Narrows look Fits Plain x x' → Narrows look Fits Plain y y' → Narrows look Fits Plain (cond b x y) (cond b x' y')
  by_truth true x y x' y' p q = p
  by_truth false x y x' y' p q = q

  not_so : {A : Type 0} (b : Bool) (x y s : Run N A) → b ≡ false → Narrows look Fits Plain y s → Narrows look Fits Plain (cond b x y) s
  not_so true x y s e p = absurd cc
  not_so false x y s e p = p

  -- two sides of formulas
  pub sides_narrow : (c : Bool) (r s r' s' : Run N (Formula N)) → Narrows look Fits Plain r r' → Narrows look Fits Plain s s'
      → Narrows look Fits Plain (two_sides c r s) (two_sides c r' s')
  sides_narrow c r s r' s' p q =
      then_narrows r r' _ _ p (λ f. by_truth (is_surely (not c) f) _ _ _ _ (gives f) (then_narrows s s' _ _ q (λ g. gives (joined c f g))))

  -- folds over the same elements
  module _ (P : N → Type 0) (test also : N → Run N (Value N)) (same : (n : N) → P n → Narrows look Fits Plain (test n) (also n)) where
    pub exists_narrows : (ns : List N) → AllByRecursion P ns → Narrows look Fits Plain (exists_in test ns) (exists_in also ns)
    exists_narrows [] h = gives _
    exists_narrows (n ∷ ns) (h, hs) = then_narrows (test n) (also n) _ _ (same n h) (λ v. by_truth (truth_of v) _ _ _ _ (gives _) (exists_narrows ns hs))

    pub first_narrows : (ns : List N) → AllByRecursion P ns → Narrows look Fits Plain (first_in test ns) (first_in also ns)
    first_narrows [] h = gives _
    first_narrows (n ∷ ns) (h, hs) = then_narrows (test n) (also n) _ _ (same n h) (λ v. by_truth (truth_of v) _ _ _ _ (gives _) (first_narrows ns hs))

    pub sum_narrows : (total : ℤ) (ns : List N) → AllByRecursion P ns → Narrows look Fits Plain (sum_in test total ns) (sum_in also total ns)
    sum_narrows total [] h = gives _
    sum_narrows total (n ∷ ns) (h, hs) = then_narrows (test n) (also n) _ _ (same n h) (λ v. sum_narrows (int_wrapping_add w32 total (int_of v)) ns hs)

    pub gather_narrows : (eq : N → N → Bool) (found : List N) (ns : List N) → AllByRecursion P ns → Narrows look Fits Plain (gather_in eq test found ns) (gather_in eq also found ns)
    gather_narrows eq found [] h = by_itself _
    gather_narrows eq found (n ∷ ns) (h, hs) = then_narrows (test n) (also n) _ _ (same n h) (λ v. gather_narrows eq (with_more eq found (nodes_of v)) ns hs)

  module _ (p : Bool) (P : N → Type 0) (test also : N → Run N (Formula N)) (same : (n : N) → P n → Narrows look Fits Plain (test n) (also n)) where
    pub fold_narrows : (ns : List N) → AllByRecursion P ns → Narrows look Fits Plain (fold_form p test ns) (fold_form p also ns)
    fold_narrows [] h = gives _
    fold_narrows (n ∷ ns) (h, hs) =
        then_narrows (test n) (also n) _ _ (same n h) (λ f. by_truth (is_surely p f) _ _ _ _ (gives f)
        (then_narrows (fold_form p test ns) (fold_form p also ns) _ _ (fold_narrows ns hs) (λ g. gives (joined (not p) f g))))

  -- folds over those that stand in a drawer
  module _ (key : Key) (m : ℕ) (P : N → Type 0) (test also : N → Run N (Value N)) (same : (n : N) → P n → Narrows look Fits Plain (test n) (also n))
      (by_key : (n : N) → P n → is_in_drawer look key m n ≡ false → (v : Value N) × Silent look Plain (test n) v × (truth_of v ≡ false)) where
    pub exists_drawn : (ns : List N) → AllByRecursion P ns → Narrows look Fits Plain (exists_in test ns) (exists_in also (those (is_in_drawer look key m) ns))
    exists_drawn [] h = gives _
    exists_drawn (n ∷ ns) (h, hs) = by_place (is_in_drawer look key m n) refl (exists_drawn ns hs)
      where
        by_place : (b : Bool) → is_in_drawer look key m n ≡ b → Narrows look Fits Plain (exists_in test ns) (exists_in also (those (is_in_drawer look key m) ns))
            → Narrows look Fits Plain (exists_in test (n ∷ ns)) (exists_in also (cond b (n ∷ those (is_in_drawer look key m) ns) (those (is_in_drawer look key m) ns)))
        by_place true e rest = then_narrows (test n) (also n) _ _ (same n h) (λ v. by_truth (truth_of v) _ _ _ _ (gives _) rest)
        by_place false e rest =
            let (v, silent, off) = by_key n h e in
            left_out (test n) v _ _ silent (not_so (truth_of v) _ _ _ off rest)

    pub first_drawn : (ns : List N) → AllByRecursion P ns → Narrows look Fits Plain (first_in test ns) (first_in also (those (is_in_drawer look key m) ns))
    first_drawn [] h = gives _
    first_drawn (n ∷ ns) (h, hs) = by_place (is_in_drawer look key m n) refl (first_drawn ns hs)
      where
        by_place : (b : Bool) → is_in_drawer look key m n ≡ b → Narrows look Fits Plain (first_in test ns) (first_in also (those (is_in_drawer look key m) ns))
            → Narrows look Fits Plain (first_in test (n ∷ ns)) (first_in also (cond b (n ∷ those (is_in_drawer look key m) ns) (those (is_in_drawer look key m) ns)))
        by_place true e rest = then_narrows (test n) (also n) _ _ (same n h) (λ v. by_truth (truth_of v) _ _ _ _ (gives _) rest)
        by_place false e rest =
            let (v, silent, off) = by_key n h e in
            left_out (test n) v _ _ silent (not_so (truth_of v) _ _ _ off rest)

  not_surely : (p : Bool) (v : Value N) → truth_of v ≡ not p → is_surely {N = N} p (Known v) ≡ false
  not_surely true v e = ap (bool_eq true) e
  not_surely false v e = ap (bool_eq false) e

  leaves_other : (p : Bool) (v : Value N) (g : Formula N) → truth_of v ≡ not p → joined (not p) (Known v) g ≡ g
  leaves_other true v g e = ap (λ b. cond (bool_eq false b) g (cond (is_known_as false g) (Known v) (Either (Known v) g))) e
  leaves_other false v g e = ap (λ b. cond (bool_eq true b) g (cond (is_known_as true g) (Known v) (Both (Known v) g))) e

  module _ (p : Bool) (key : Key) (m : ℕ) (P : N → Type 0) (test also : N → Run N (Formula N)) (same : (n : N) → P n → Narrows look Fits Plain (test n) (also n))
      (by_key : (n : N) → P n → is_in_drawer look key m n ≡ false → (v : Value N) × Silent look Plain (test n) (Known v) × (truth_of v ≡ not p)) where
    pub fold_drawn : (ns : List N) → AllByRecursion P ns → Narrows look Fits Plain (fold_form p test ns) (fold_form p also (those (is_in_drawer look key m) ns))
    fold_drawn [] h = gives _
    fold_drawn (n ∷ ns) (h, hs) = by_place (is_in_drawer look key m n) refl (fold_drawn ns hs)
      where
        by_place : (b : Bool) → is_in_drawer look key m n ≡ b → Narrows look Fits Plain (fold_form p test ns) (fold_form p also (those (is_in_drawer look key m) ns))
            → Narrows look Fits Plain (fold_form p test (n ∷ ns)) (fold_form p also (cond b (n ∷ those (is_in_drawer look key m) ns) (those (is_in_drawer look key m) ns)))
        by_place true e rest =
            then_narrows (test n) (also n) _ _ (same n h) (λ f. by_truth (is_surely p f) _ _ _ _ (gives f) (then_narrows _ _ _ _ rest (λ g. gives (joined (not p) f g))))
        by_place false e rest =
            let (v, silent, off) = by_key n h e in
            left_out (test n) (Known v) _ _ silent (not_so (is_surely p (Known v)) _ _ _ (not_surely p v off)
            (then_same (joined (not p) (Known v)) (λ g. leaves_other p v g off) (fold_form p test ns) _ rest))

-- one after the other, where what comes between has its kind
module _ {N : Type 0} (rules : Rules) (at : ClassAt N) (Allowed : Texts) (look : Contents N) (Plain : Instance N → Value N → Type 0)
    (plain_fits : (i : Instance N) (v : Value N) → IsWellTyped rules at Allowed i → Plain i v → IsOfItsKind rules at i v) where
  pub typed_then : {A B : Type 0} (Q : A → Type 0) (r s : Run N A) (k h : A → Run N B)
      → Narrows look (IsOfItsKind rules at) Plain r s → IsTypedRun rules at Allowed look Q r
      → ((a : A) → Q a → Narrows look (IsOfItsKind rules at) Plain (k a) (h a)) → Narrows look (IsOfItsKind rules at) Plain (r >>= k) (s >>= h)
  typed_then Q _ _ k h (gives a) t each = each a t
  typed_then Q _ _ k h (fails f) t each = fails f
  typed_then Q _ _ k h (demands i m n below) (w, t) each = demands i _ _ (λ v fits. typed_then Q (m v) (n v) k h (below v fits) (t v fits) each)
  typed_then Q _ _ k h (looks_less l m s rest) (w, t) each = looks_less l _ _ (typed_then Q (m (look l)) s k h rest t each)
  typed_then Q _ _ k h (looks_more l r n rest) t each = looks_more l _ _ (typed_then Q r (n (look l)) k h rest t each)
  typed_then Q _ _ k h (demands_less i v m s plain rest) (w, t) each =
      demands_less i v _ _ plain (typed_then Q (m v) s k h rest (t v (plain_fits i v w plain)) each)

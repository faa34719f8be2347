-- The value of a circular instance: a fixpoint, the least one where it starts from false, and the greatest one where
-- it starts
-- from true.
use Rattle.std.proofs.Common.{◌≡◌, ℕ, zero, suc, Bool, true, false, not, Option, Some, None, inl, inr, refl, sym, ◌∙◌, subst, ap, ◌⊎◌}
use Rattle.at_model.specs.Run.{Value, Truth, Contents, Instance}
use Rattle.at_model.specs.Meaning.{Finds, Among}
use Rattle.at_model.proofs.Reached.{front_among, back_among}
use Rattle.at_model.specs.of_fixpoints.Formulas.{Formula, Known, Asks, Both, Either, atoms, Forms}
use Rattle.at_model.specs.of_fixpoints.Fixpoints.{Made, LeadsOver, stays, goes, AreFormed, Leaves, known, asks, true_both, true_left, true_right, false_left, false_right, false_both, Valued, EndsAt, HasValue, HasForm}
use Rattle.at_model.specs.of_fixpoints.Sets.{IsWhere, AreOfOneStart}
use Rattle.at_model.specs.of_fixpoints.Sets as so
use Rattle.at_model.proofs.of_formulas.UniqueOutcomes.{once, ends_at, leaves_over, closed, itself}

-- a derivation shows whatever is closed under the formulas
pub shown : {N : Type 0} (has : Instance N → Formula N → Type 0) (P : Instance N → Type 0) (b : Bool) →
    ((i : Instance N) (f : Formula N) → has i f → IsWhere P (not b) f → P i) →
    (f : Formula N) → Leaves has b f → IsWhere P (not b) f
shown has P _ shut _ (known b) = so.known (not b)
shown has P _ shut _ (asks b i f h x) = so.asks (not b) i (shut i f h (shown has P b shut f x))
shown has P _ shut _ (true_both {f} {g} x y) =
    so.true_both (shown has P false shut f x) (shown has P false shut g y)
shown has P _ shut _ (true_left {f} {g} x) = so.true_left (shown has P false shut f x)
shown has P _ shut _ (true_right {f} {g} x) = so.true_right (shown has P false shut g x)
shown has P _ shut _ (false_left {f} {g} x) = so.false_left (shown has P true shut f x)
shown has P _ shut _ (false_right {f} {g} x) = so.false_right (shown has P true shut g x)
shown has P _ shut _ (false_both {f} {g} x y) = so.false_both (shown has P true shut f x) (shown has P true shut g y)

-- more instances of a truth value make only more formulas of it
pub more_so : {N : Type 0} (P Q : Instance N → Type 0) (b : Bool) (f : Formula N) →
    ((i : Instance N) → Among i (atoms f) → P i → Q i) → IsWhere P b f → IsWhere Q b f
more_so P Q _ _ more (so.known b) = so.known b
more_so P Q _ _ more (so.asks b i p) = so.asks b i (more i (inl refl) p)
more_so P Q _ _ more (so.true_both {f} {g} x y) =
    so.true_both (more_so P Q true f (λ i h. more i (front_among i (atoms f) (atoms g) h)) x)
    (more_so P Q true g (λ i h. more i (back_among i (atoms f) (atoms g) h)) y)
more_so P Q _ _ more (so.true_left {f} {g} x) =
    so.true_left (more_so P Q true f (λ i h. more i (front_among i (atoms f) (atoms g) h)) x)
more_so P Q _ _ more (so.true_right {f} {g} x) =
    so.true_right (more_so P Q true g (λ i h. more i (back_among i (atoms f) (atoms g) h)) x)
more_so P Q _ _ more (so.false_left {f} {g} x) =
    so.false_left (more_so P Q false f (λ i h. more i (front_among i (atoms f) (atoms g) h)) x)
more_so P Q _ _ more (so.false_right {f} {g} x) =
    so.false_right (more_so P Q false g (λ i h. more i (back_among i (atoms f) (atoms g) h)) x)
more_so P Q _ _ more (so.false_both {f} {g} x y) =
    so.false_both (more_so P Q false f (λ i h. more i (front_among i (atoms f) (atoms g) h)) x)
    (more_so P Q false g (λ i h. more i (back_among i (atoms f) (atoms g) h)) y)

-- a formula that is so of those that leave the start leaves it
module _ {N : Type 0} (has : Instance N → Formula N → Type 0) where
  true_of_both : (b : Bool) (f g : Formula N) → true ≡ not b → Leaves has b f → Leaves has b g →
      Leaves has b (Both f g)
  true_of_both false f g e x y = true_both x y
  true_of_both true f g e x y = absurd cc

  true_of_left : (b : Bool) (f g : Formula N) → true ≡ not b → Leaves has b f → Leaves has b (Either f g)
  true_of_left false f g e x = true_left x
  true_of_left true f g e x = absurd cc

  true_of_right : (b : Bool) (f g : Formula N) → true ≡ not b → Leaves has b g → Leaves has b (Either f g)
  true_of_right false f g e x = true_right x
  true_of_right true f g e x = absurd cc

  false_of_left : (b : Bool) (f g : Formula N) → false ≡ not b → Leaves has b f → Leaves has b (Both f g)
  false_of_left true f g e x = false_left x
  false_of_left false f g e x = absurd cc

  false_of_right : (b : Bool) (f g : Formula N) → false ≡ not b → Leaves has b g → Leaves has b (Both f g)
  false_of_right true f g e x = false_right x
  false_of_right false f g e x = absurd cc

  false_of_both : (b : Bool) (f g : Formula N) → false ≡ not b → Leaves has b f → Leaves has b g →
      Leaves has b (Either f g)
  false_of_both true f g e x y = false_both x y
  false_of_both false f g e x y = absurd cc

  pub leaves_by : (b c : Bool) (f : Formula N) → c ≡ not b → IsWhere (λ i. Leaves has b (Asks i)) c f → Leaves has b f
  leaves_by b _ _ e (so.known c) = subst (λ z. Leaves has b (Known (Truth z))) (sym e) (known b)
  leaves_by b _ _ e (so.asks c i x) = x
  leaves_by b _ _ e (so.true_both {f} {g} x y) =
      true_of_both b f g e (leaves_by b true f e x) (leaves_by b true g e y)
  leaves_by b _ _ e (so.true_left {f} {g} x) = true_of_left b f g e (leaves_by b true f e x)
  leaves_by b _ _ e (so.true_right {f} {g} x) = true_of_right b f g e (leaves_by b true g e x)
  leaves_by b _ _ e (so.false_left {f} {g} x) = false_of_left b f g e (leaves_by b false f e x)
  leaves_by b _ _ e (so.false_right {f} {g} x) = false_of_right b f g e (leaves_by b false g e x)
  leaves_by b _ _ e (so.false_both {f} {g} x y) =
      false_of_both b f g e (leaves_by b false f e x) (leaves_by b false g e y)

  -- and what leaves the start is so of those that do
  pub by_leaves : (b : Bool) (f : Formula N) → Leaves has b f → IsWhere (λ i. Leaves has b (Asks i)) (not b) f
  by_leaves _ _ (known b) = so.known (not b)
  by_leaves _ _ (asks b i f h x) = so.asks (not b) i (asks b i f h x)
  by_leaves _ _ (true_both {f} {g} x y) = so.true_both (by_leaves false f x) (by_leaves false g y)
  by_leaves _ _ (true_left {f} {g} x) = so.true_left (by_leaves false f x)
  by_leaves _ _ (true_right {f} {g} x) = so.true_right (by_leaves false g x)
  by_leaves _ _ (false_left {f} {g} x) = so.false_left (by_leaves true f x)
  by_leaves _ _ (false_right {f} {g} x) = so.false_right (by_leaves true g x)
  by_leaves _ _ (false_both {f} {g} x y) = so.false_both (by_leaves true f x) (by_leaves true g y)

  -- an instance that leaves the start has a formula that does
  opened : (b : Bool) (g : Formula N) (i : Instance N) → g ≡ Asks i → Leaves has b g →
      (f : Formula N) × has i f × Leaves has b f
  opened _ _ i e (known b) = absurd cc
  opened _ _ i e (asks b j f h x) = let q : j ≡ i = cc in (f, subst (λ z. has z f) q h, x)
  opened _ _ i e (true_both x y) = absurd cc
  opened _ _ i e (true_left x) = absurd cc
  opened _ _ i e (true_right x) = absurd cc
  opened _ _ i e (false_left x) = absurd cc
  opened _ _ i e (false_right x) = absurd cc
  opened _ _ i e (false_both x y) = absurd cc

-- it isn't its own negation
not_same : (b : Bool) → not b ≡ b → ⊥
not_same true e = cc
not_same false e = cc

-- no formula is so and not so, where no instance is both
clash : {N : Type 0} (P Q : Instance N → Type 0) (b c : Bool) (f : Formula N) → c ≡ not b →
    IsWhere P c f → IsWhere Q b f → ((k : Instance N) → Among k (atoms f) → P k → Q k → ⊥) → ⊥
clash P Q b _ _ e (so.known c) (so.known _) one = not_same b (sym e)
clash P Q _ _ _ e (so.asks c i x) (so.asks b _ y) one = one i (inl refl) x y
clash P Q _ _ _ e (so.true_both x y) (so.true_both z w) one = absurd cc
clash P Q _ _ _ e (so.true_both {f} {g} x y) (so.false_left z) one =
    clash P Q false true f e x z (λ k a. one k (front_among k (atoms f) (atoms g) a))
clash P Q _ _ _ e (so.true_both {f} {g} x y) (so.false_right z) one =
    clash P Q false true g e y z (λ k a. one k (back_among k (atoms f) (atoms g) a))
clash P Q _ _ _ e (so.true_left x) (so.true_left z) one = absurd cc
clash P Q _ _ _ e (so.true_left x) (so.true_right z) one = absurd cc
clash P Q _ _ _ e (so.true_left {f} {g} x) (so.false_both y z) one =
    clash P Q false true f e x y (λ k a. one k (front_among k (atoms f) (atoms g) a))
clash P Q _ _ _ e (so.true_right x) (so.true_left z) one = absurd cc
clash P Q _ _ _ e (so.true_right x) (so.true_right z) one = absurd cc
clash P Q _ _ _ e (so.true_right {f} {g} x) (so.false_both y z) one =
    clash P Q false true g e x z (λ k a. one k (back_among k (atoms f) (atoms g) a))
clash P Q _ _ _ e (so.false_left {f} {g} x) (so.true_both y z) one =
    clash P Q true false f e x y (λ k a. one k (front_among k (atoms f) (atoms g) a))
clash P Q _ _ _ e (so.false_left x) (so.false_left z) one = absurd cc
clash P Q _ _ _ e (so.false_left x) (so.false_right z) one = absurd cc
clash P Q _ _ _ e (so.false_right {f} {g} x) (so.true_both y z) one =
    clash P Q true false g e x z (λ k a. one k (back_among k (atoms f) (atoms g) a))
clash P Q _ _ _ e (so.false_right x) (so.false_left z) one = absurd cc
clash P Q _ _ _ e (so.false_right x) (so.false_right z) one = absurd cc
clash P Q _ _ _ e (so.false_both {f} {g} x y) (so.true_left z) one =
    clash P Q true false f e x z (λ k a. one k (front_among k (atoms f) (atoms g) a))
clash P Q _ _ _ e (so.false_both {f} {g} x y) (so.true_right z) one =
    clash P Q true false g e y z (λ k a. one k (back_among k (atoms f) (atoms g) a))
clash P Q _ _ _ e (so.false_both x y) (so.false_both z w) one = absurd cc

-- an instance that starts from b and has left it is derived
left_it : {N : Type 0} (has : Instance N → Formula N → Type 0) (b : Bool) (i : Instance N) (start : Option Bool)
    (v : Value N) →
    start ≡ Some b → v ≡ Truth (not b) → Valued has start i v → Leaves has b (Asks i)
left_it has b i None v e w x = absurd cc
left_it has b i (Some c) v e w (inl (x, p)) = let q : c ≡ b = cc in subst (λ z. Leaves has z (Asks i)) q x
left_it has b i (Some c) v e w (inr (x, p)) =
    let q : c ≡ b = cc in let r : Truth (not b) ≡ Truth c = sym w ∙ p in let s : not b ≡ c = cc in
    absurd (not_same b (s ∙ q))

-- and where it is derived that is its value
has_left : {N : Type 0} (has : Instance N → Formula N → Type 0) (b : Bool) (i : Instance N) (start : Option Bool) →
    start ≡ Some b → Leaves has b (Asks i) → Valued has start i (Truth (not b))
has_left has b i None e x = absurd cc
has_left {N} has b i (Some c) e x =
    let q : b ≡ c = cc in
    let r : ◌≡◌ {A = Value N} (Truth (not b)) (Truth (not c)) = ap (λ z. Truth (not z)) q in
    inl (subst (λ z. Leaves has z (Asks i)) q x, r)

not_truth : {N : Type 0} (b : Bool) → ◌≡◌ {A = Value N} (Truth (not b)) (Truth b) → ⊥
not_truth b e = let q : not b ≡ b = cc in not_same b q

which : (b c : Bool) → (c ≡ b) ⊎ (c ≡ not b)
which true true = inl refl
which true false = inr refl
which false true = inr refl
which false false = inl refl

module _ {N : Type 0} (look : Contents N) (forms : Forms N) where
  -- a value is one
  once_value : (i : Instance N) (v w : Value N) → HasValue look forms i v → HasValue look forms i w → v ≡ w
  once_value i v w h g = let q : Finds v ≡ Finds w = once look forms i (Finds v) (Finds w) h g in cc

  -- what the equations have at a depth
  abbrev pub FormedAt : ℕ → Instance N → Formula N → Type 0
  FormedAt n j f = EndsAt look forms n j (Made f)

  -- what has left the start, and has formulas at a depth, is derived there
  within : (n : ℕ) (b : Bool) (j : Instance N) → AreFormed (EndsAt look forms n) j →
      forms.starts j.attribute ≡ Some b →
      HasValue look forms j (Truth (not b)) → Leaves (FormedAt n) b (Asks j)
  within n b j c e (zero, x) = absurd x
  within n b j c e (suc m, (d, v)) =
      leaves_over (EndsAt look forms m) (EndsAt look forms n) (ends_at look forms m n)
      (LeadsOver (EndsAt look forms n) j)
      (closed (EndsAt look forms n) j c) b (Asks j)
      (left_it (FormedAt m) b j (forms.starts j.attribute) (Truth (not b)) e refl v) (itself (EndsAt look forms n) j)

  -- those to which one leads that has formulas have them
  formed_there : (n : ℕ) (i j : Instance N) (f : Formula N) → FormedAt n i f → Among j (atoms f) →
      AreFormed (EndsAt look forms n) i → AreFormed (EndsAt look forms n) j
  formed_there n i j f h a c k l = c k (goes i j k f h a l)

  -- whatever is closed under the formulas has each that left the start
  pub smallest : (P : Instance N → Type 0) (b : Bool) →
      ((i : Instance N) (f : Formula N) → HasForm look forms i f → IsWhere P (not b) f → P i) →
      (i : Instance N) → forms.starts i.attribute ≡ Some b → HasValue look forms i (Truth (not b)) → P i
  smallest P b shut i e (zero, x) = absurd x
  smallest P b shut i e (suc n, (c, v)) =
      let d = left_it (FormedAt n) b i (forms.starts i.attribute) (Truth (not b)) e refl v in
      let (f, y, l) = opened (FormedAt n) b (Asks i) i refl d in
      shut i f (n, y) (shown (FormedAt n) P b (λ j g z. shut j g (n, z)) f l)

  -- one that left the start has a formula that did, by the values
  pub form_left : AreOfOneStart look forms → (b : Bool) (i : Instance N) (f : Formula N) →
      forms.starts i.attribute ≡ Some b → HasForm look forms i f → HasValue look forms i (Truth (not b)) →
      IsWhere (λ k. HasValue look forms k (Truth (not b))) (not b) f
  form_left same b i f e a (zero, x) = absurd x
  form_left same b i f e (m, a) (suc n, (c, v)) =
      let (g, y) = c i (stays i) in
      let q : Made f ≡ Made g = ends_at look forms m n i (Made f) (Made g) a y in let q' : g ≡ f = cc in
      let d = left_it (FormedAt n) b i (forms.starts i.attribute) (Truth (not b)) e refl v in
      let (k, z, l) = opened (FormedAt n) b (Asks i) i refl d in
      let r : Made k ≡ Made f = ends_at look forms n m i (Made k) (Made f) z a in let r' : k ≡ f = cc in
      more_so (λ j. Leaves (FormedAt n) b (Asks j)) (λ k. HasValue look forms k (Truth (not b))) (not b) f
      (λ j h t. (
        suc n,
        (
          formed_there n i j g y (subst (λ w. Among j (atoms w)) (sym q') h) c,
          has_left (FormedAt n) b j (forms.starts j.attribute) (same i j f (m, a) h ∙ e) t,
        ),
      ))
      (by_leaves (FormedAt n) b f (subst (λ w. Leaves (FormedAt n) b w) r' l))

  -- and the other way round, where it has a value
  pub left_by_form : AreOfOneStart look forms → (b : Bool) (i : Instance N) (f : Formula N) (v : Value N) →
      forms.starts i.attribute ≡ Some b → HasForm look forms i f → HasValue look forms i v →
      IsWhere (λ k. HasValue look forms k (Truth (not b))) (not b) f → HasValue look forms i (Truth (not b))
  left_by_form same b i f v e a (zero, x) t = absurd x
  left_by_form same b i f v e (m, a) (suc n, (c, w)) t =
      let (g, y) = c i (stays i) in
      let q : Made f ≡ Made g = ends_at look forms m n i (Made f) (Made g) a y in let q' : g ≡ f = cc in
      let l = leaves_by (FormedAt n) b (not b) f refl
      (more_so (λ k. HasValue look forms k (Truth (not b))) (λ j. Leaves (FormedAt n) b (Asks j)) (not b) f
      (λ j h u. within n b j (formed_there n i j g y (subst (λ w. Among j (atoms w)) (sym q') h) c)
      (same i j f (m, a) h ∙ e) u) t) in (
        suc n,
        (
          c,
          has_left (FormedAt n) b i (forms.starts i.attribute) e
              (asks b i f (subst (λ w. FormedAt n i w) q' y) l),
        ),
      )

  -- one that starts from b has that value, or has left it
  by_start : (n : ℕ) (b : Bool) (i : Instance N) (v : Value N) (start : Option Bool) → start ≡ Some b →
      AreFormed (EndsAt look forms n) i → start ≡ forms.starts i.attribute → Valued (FormedAt n) start i v →
      (v ≡ Truth b) ⊎ HasValue look forms i (Truth (not b))
  by_start n b i v None e c is w = absurd cc
  by_start n b i v (Some d) e c is (inl (x, p)) =
      let q : d ≡ b = cc in
      inr (
        suc n,
        (
          c,
          has_left (FormedAt n) b i (forms.starts i.attribute) (sym is ∙ e)
              (subst (λ z. Leaves (FormedAt n) z (Asks i)) q x),
        ),
      )
  by_start n b i v (Some d) e c is (inr (x, p)) = let q : d ≡ b = cc in inl (p ∙ ap Truth q)

  either_value : (b : Bool) (i : Instance N) (v : Value N) → forms.starts i.attribute ≡ Some b →
      HasValue look forms i v → (v ≡ Truth b) ⊎ HasValue look forms i (Truth (not b))
  either_value b i v e (zero, x) = absurd x
  either_value b i v e (suc n, (c, w)) = by_start n b i v (forms.starts i.attribute) e c refl w

  -- the value is what the formula has of the values: where that is the start, it hasn't left it
  stays_so : AreOfOneStart look forms → (b : Bool) (i : Instance N) (f : Formula N) (v : Value N) →
      forms.starts i.attribute ≡ Some b → HasForm look forms i f →
      IsWhere (λ k. HasValue look forms k (Truth b)) b f →
      (v ≡ Truth b) ⊎ HasValue look forms i (Truth (not b)) → v ≡ Truth b
  stays_so same b i f v e a t (inl p) = p
  stays_so same b i f v e a t (inr l) =
      absurd (clash (λ k. HasValue look forms k (Truth (not b))) (λ k. HasValue look forms k (Truth b))
      b (not b) f refl (form_left same b i f e a l) t
      (λ k m x y. not_truth b (once_value k (Truth (not b)) (Truth b) x y)))

  -- and else it has
  by_form : AreOfOneStart look forms → (b c : Bool) (i : Instance N) (f : Formula N) (v : Value N) →
      (c ≡ b) ⊎ (c ≡ not b) → forms.starts i.attribute ≡ Some b → HasForm look forms i f → HasValue look forms i v →
      IsWhere (λ k. HasValue look forms k (Truth c)) c f → v ≡ Truth c
  by_form same b c i f v (inl q) e a h t =
      stays_so same c i f v (e ∙ ap Some (sym q)) a t (either_value c i v (e ∙ ap Some (sym q)) h)
  by_form same b c i f v (inr q) e a h t =
      once_value i v (Truth c) h (subst (λ z. HasValue look forms i (Truth z)) (sym q)
      (left_by_form same b i f v e a h (subst (λ z. IsWhere (λ k. HasValue look forms k (Truth z)) z f) q t)))

  pub value_by_form : AreOfOneStart look forms → (b c : Bool) (i : Instance N) (f : Formula N) (v : Value N) →
      forms.starts i.attribute ≡ Some b → HasForm look forms i f → HasValue look forms i v →
      IsWhere (λ k. HasValue look forms k (Truth c)) c f → v ≡ Truth c
  value_by_form same b c i f v e a h t = by_form same b c i f v (which b c) e a h t

  -- the greatest fixpoint: what is so in a set by its formulas is so
  pub greatest : (In : Instance N → Type 0) (b : Bool) →
      ((i : Instance N) (f : Formula N) → HasForm look forms i f → In i → IsWhere In b f) →
      (i : Instance N) (v : Value N) → forms.starts i.attribute ≡ Some b → HasValue look forms i v → In i →
      v ≡ Truth b
  greatest In b stands i v e h x = elim (either_value b i v e h) [
    | inl p ↦ p
    | inr l ↦ absurd (smallest (λ k. In k → ⊥) b
        (λ j g y z m. clash (λ k. In k → ⊥) In b (not b) g refl z (stands j g y m) (λ k a n o. n o)) i e l x)
  ]

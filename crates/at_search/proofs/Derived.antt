-- What is derived of the conditions of formulas is what leaves the start value.
use Rattle.std.proofs.Common.{◌≡◌, ◌⊎◌, ℕ, zero, suc, ◌+◌, Bool, true, false, not, cond, List, [], ◌∷◌, ◌++◌, slice_get, Option, Some, None, IsSome, inl, inr, refl, sym, ap, ◌∙◌, subst, true≢false}
use Rattle.at_model.specs.Run.{Value, Truth, Instance, Known}
use Rattle.at_model.specs.Bodies.{bool_eq, truth_of}
use Rattle.at_model.specs.Meaning.{Among}
use Rattle.at_model.specs.of_fixpoints.Formulas.{Formula, Asks, Both, Either, atoms}
use Rattle.at_model.specs.of_fixpoints.Formulas as formula
use Rattle.at_model.specs.of_fixpoints.Fixpoints.{Leaves, known, asks, true_both, true_left, true_right, false_left, false_right, false_both}
use Rattle.at_model.proofs.Reached.{front_among, back_among}
use Rattle.at_body.specs.Pieces.{combined}
use Rattle.at_solve.specs.declared.condition.Condition.{Condition}
use Rattle.at_solve.specs.declared.condition.Condition.TheVariants as condition
use Rattle.at_solve.specs.Derivations.{Derives, always, follows, by_both, by_one, by_other}
use Rattle.at_search.specs.Systems.{told, two, Stands, IsPlaced}
use Rattle.at_search.specs.Systems as stands

pub no_value : (o : Option (Value ℕ)) → o ≡ None → IsSome o → ⊥
no_value None e s = true≢false (sym s)
no_value (Some v) e s = cc

pub there_among : {A : Type 0} (xs : List A) (n : ℕ) (a : A) → slice_get xs n ≡ Some a → Among a xs
there_among [] n a e = absurd cc
there_among (x ∷ xs) zero a e = let q : x ≡ a = cc in inl (sym q)
there_among (x ∷ xs) (suc n) a e = inr (there_among xs n a e)

not_itself : (b : Bool) → bool_eq (not b) b ≡ false
not_itself true = refl
not_itself false = refl

two_is_both : (s c : Bool) (l r : ℕ) → bool_eq c s ≡ false → two s c l r ≡ condition.Both l r
two_is_both true true l r e = absurd (true≢false e)
two_is_both true false l r e = refl
two_is_both false true l r e = refl
two_is_both false false l r e = absurd (true≢false e)

two_is_either : (s c : Bool) (l r : ℕ) → bool_eq c s ≡ true → two s c l r ≡ condition.Either l r
two_is_either true true l r e = refl
two_is_either true false l r e = absurd (true≢false (sym e))
two_is_either false true l r e = absurd (true≢false (sym e))
two_is_either false false l r e = refl

-- what a value tells
value_always : (s b : Bool) → condition.Always ≡ told s b → bool_eq b s ≡ false
value_always true true e = absurd cc
value_always true false e = refl
value_always false true e = refl
value_always false false e = absurd cc

always_value : (s b : Bool) → bool_eq b s ≡ false → told s b ≡ condition.Always
always_value true true e = absurd (true≢false e)
always_value true false e = refl
always_value false true e = refl
always_value false false e = absurd (true≢false e)

told_not_when : (s b : Bool) (q : ℕ) → condition.When q ≡ told s b → ⊥
told_not_when true true q e = cc
told_not_when true false q e = cc
told_not_when false true q e = cc
told_not_when false false q e = cc

told_not_both : (s b : Bool) (l r : ℕ) → condition.Both l r ≡ told s b → ⊥
told_not_both true true l r e = cc
told_not_both true false l r e = cc
told_not_both false true l r e = cc
told_not_both false false l r e = cc

told_not_either : (s b : Bool) (l r : ℕ) → condition.Either l r ≡ told s b → ⊥
told_not_either true true l r e = cc
told_not_either true false l r e = cc
told_not_either false true l r e = cc
told_not_either false false l r e = cc

two_not_always : (s c : Bool) (l r : ℕ) → condition.Always ≡ two s c l r → ⊥
two_not_always true true l r e = cc
two_not_always true false l r e = cc
two_not_always false true l r e = cc
two_not_always false false l r e = cc

two_not_when : (s c : Bool) (q l r : ℕ) → condition.When q ≡ two s c l r → ⊥
two_not_when true true q l r e = cc
two_not_when true false q l r e = cc
two_not_when false true q l r e = cc
two_not_when false false q l r e = cc

-- both are derived where the operator isn't decided by one
two_are_both : (s c : Bool) (l r m n : ℕ) → condition.Both l r ≡ two s c m n → (bool_eq c s ≡ false) × (l ≡ m) × (r ≡ n)
two_are_both true true l r m n e = absurd cc
two_are_both true false l r m n e = (refl, cc, cc)
two_are_both false true l r m n e = (refl, cc, cc)
two_are_both false false l r m n e = absurd cc

two_are_either : (s c : Bool) (l r m n : ℕ) → condition.Either l r ≡ two s c m n → (bool_eq c s ≡ true) × (l ≡ m) × (r ≡ n)
two_are_either true true l r m n e = (refl, cc, cc)
two_are_either true false l r m n e = absurd cc
two_are_either false true l r m n e = absurd cc
two_are_either false false l r m n e = (refl, cc, cc)

module _ (has : Instance ℕ → Formula ℕ → Type 0) where
  value_leaves : (s b : Bool) → bool_eq b s ≡ false → Leaves has s (formula.Known (Truth b))
  value_leaves true true e = absurd (true≢false e)
  value_leaves true false e = known true
  value_leaves false true e = known false
  value_leaves false false e = absurd (true≢false e)

  pair_leaves : (s c : Bool) (f g : Formula ℕ) → bool_eq c s ≡ false → Leaves has s f → Leaves has s g → Leaves has s (combined c f g)
  pair_leaves true true f g e x y = absurd (true≢false e)
  pair_leaves true false f g e x y = false_both x y
  pair_leaves false true f g e x y = true_both x y
  pair_leaves false false f g e x y = absurd (true≢false e)

  one_leaves : (s c : Bool) (f g : Formula ℕ) → bool_eq c s ≡ true → Leaves has s f ⊎ Leaves has s g → Leaves has s (combined c f g)
  one_leaves true true f g e (inl x) = false_left x
  one_leaves true true f g e (inr y) = false_right y
  one_leaves true false f g e x = absurd (true≢false (sym e))
  one_leaves false true f g e x = absurd (true≢false (sym e))
  one_leaves false false f g e (inl x) = true_left x
  one_leaves false false f g e (inr y) = true_right y

module _ (start : Bool) (count : ℕ) (kept : Known ℕ) (insts : List (Instance ℕ)) (parts system : List Condition)
    (at_parts : (p : ℕ) → slice_get system (count + p) ≡ slice_get parts p) (has : Instance ℕ → Formula ℕ → Type 0) where
  abbrev At : ℕ → Formula ℕ → Type 0
  At p f = Stands start count kept insts parts p f

  abbrev Left : Formula ℕ → Type 0
  Left f = Leaves has start f

  -- the condition there is that one
  condition_at : (P p : ℕ) (c d : Condition) → P ≡ count + p → slice_get system P ≡ Some c → slice_get parts p ≡ Some d → c ≡ d
  condition_at P p c d e is at =
      let q : Some c ≡ Some d = sym is ∙ ap (slice_get system) e ∙ at_parts p ∙ at in cc

  -- all that it asks for is so
  abbrev AllFit : (Instance ℕ → Type 0) → Formula ℕ → Type 0
  AllFit Fits f = (k : Instance ℕ) → Among k (atoms f) → Fits k

  module _ (Fits : Instance ℕ → Type 0)
      (right : (i : Instance ℕ) (v : Value ℕ) → Fits i → kept i ≡ Some v → bool_eq (truth_of v) start ≡ false → Left (Asks i))
      (fits : (q : ℕ) (i : Instance ℕ) (f : Formula ℕ) → slice_get insts q ≡ Some i → has i f → AllFit Fits f)
      (placed : (q : ℕ) (i : Instance ℕ) → slice_get insts q ≡ Some i → IsPlaced start count kept insts parts system has q i) where
    -- a formula for which the condition stands leaves the start value, and so does an instance
    abbrev Sound : ℕ → Type 0
    Sound P = ((p : ℕ) (f : Formula ℕ) → P ≡ count + p → At p f → AllFit Fits f → Left f) × ((i : Instance ℕ) → slice_get insts P ≡ Some i → Left (Asks i))

    always_stands : (p : ℕ) (f : Formula ℕ) → At p f → AllFit Fits f → ((d : Condition) → slice_get parts p ≡ Some d → condition.Always ≡ d) → Left f
    always_stands _ _ (stands.by_value p b at) w is = value_leaves has start b (value_always start b (is (told start b) at))
    always_stands _ _ (stands.by_known p i v k at) w is = right i v (w i (inl refl)) k (value_always start (truth_of v) (is (told start (truth_of v)) at))
    always_stands _ _ (stands.by_place p q i k there at) w is = let z : condition.Always ≡ condition.When q = is (condition.When q) at in absurd cc
    always_stands _ _ (stands.nowhere p i k gone at) w is = let z : condition.Always ≡ condition.Never = is condition.Never at in absurd cc
    always_stands _ _ (stands.by_both p l r f g at x y) w is =
        absurd (two_not_always start true (count + l) (count + r) (is (two start true (count + l) (count + r)) at))
    always_stands _ _ (stands.by_either p l r f g at x y) w is =
        absurd (two_not_always start false (count + l) (count + r) (is (two start false (count + l) (count + r)) at))

    sound_always : (P : ℕ) → slice_get system P ≡ Some condition.Always → Sound P
    sound_always P is = (
      λ p f e s w. always_stands p f s w (λ d at. condition_at P p condition.Always d e is at),
      λ i there. elim (placed P i there) [
        | inl n ↦ let z : Some condition.Always ≡ Some condition.Never = sym is ∙ n in absurd cc
        | inr (f, r, h, w, s) ↦ let z : Some condition.Always ≡ Some (condition.When (count + r)) = sym is ∙ w in absurd cc
      ],
    )

    when_stands : (p q : ℕ) (f : Formula ℕ) → At p f → ((d : Condition) → slice_get parts p ≡ Some d → condition.When q ≡ d) →
        ((i : Instance ℕ) → slice_get insts q ≡ Some i → Left (Asks i)) → Left f
    when_stands _ q _ (stands.by_value p b at) is then' = absurd (told_not_when start b q (is (told start b) at))
    when_stands _ q _ (stands.by_known p i v k at) is then' = absurd (told_not_when start (truth_of v) q (is (told start (truth_of v)) at))
    when_stands _ q _ (stands.by_place p m i k there at) is then' =
        let z : condition.When q ≡ condition.When m = is (condition.When m) at in
        let same : m ≡ q = cc in then' i (subst (λ n. slice_get insts n ≡ Some i) same there)
    when_stands _ q _ (stands.nowhere p i k gone at) is then' = let z : condition.When q ≡ condition.Never = is condition.Never at in absurd cc
    when_stands _ q _ (stands.by_both p l r f g at x y) is then' =
        absurd (two_not_when start true q (count + l) (count + r) (is (two start true (count + l) (count + r)) at))
    when_stands _ q _ (stands.by_either p l r f g at x y) is then' =
        absurd (two_not_when start false q (count + l) (count + r) (is (two start false (count + l) (count + r)) at))

    sound_when : (P q : ℕ) → slice_get system P ≡ Some (condition.When q) → Sound q → Sound P
    sound_when P q is (a, b) = (
      λ p f e s w. when_stands p q f s (λ d at. condition_at P p (condition.When q) d e is at) b,
      λ i there. elim (placed P i there) [
        | inl n ↦ let z : Some (condition.When q) ≡ Some condition.Never = sym is ∙ n in absurd cc
        | inr (f, r, h, w, s) ↦
            let z : Some (condition.When q) ≡ Some (condition.When (count + r)) = sym is ∙ w in
            let same : q ≡ count + r = cc in asks start i f h (a r f same s (fits P i f there h))
      ],
    )

    in_front : (f g : Formula ℕ) → ((k : Instance ℕ) → Among k (atoms f ++ atoms g) → Fits k) → AllFit Fits f
    in_front f g w k h = w k (front_among k (atoms f) (atoms g) h)

    behind : (f g : Formula ℕ) → ((k : Instance ℕ) → Among k (atoms f ++ atoms g) → Fits k) → AllFit Fits g
    behind f g w k h = w k (back_among k (atoms f) (atoms g) h)

    both_stands : (p l r : ℕ) (f : Formula ℕ) → At p f → AllFit Fits f → ((d : Condition) → slice_get parts p ≡ Some d → condition.Both l r ≡ d) →
        Sound l → Sound r → Left f
    both_stands _ l r _ (stands.by_value p b at) w is x y = absurd (told_not_both start b l r (is (told start b) at))
    both_stands _ l r _ (stands.by_known p i v k at) w is x y = absurd (told_not_both start (truth_of v) l r (is (told start (truth_of v)) at))
    both_stands _ l r _ (stands.by_place p m i k there at) w is x y =
        let z : condition.Both l r ≡ condition.When m = is (condition.When m) at in absurd cc
    both_stands _ l r _ (stands.nowhere p i k gone at) w is x y =
        let z : condition.Both l r ≡ condition.Never = is condition.Never at in absurd cc
    both_stands _ l r _ (stands.by_both p m n f g at s t) w is (a, _) (b, _) =
        let (off, e, d) = two_are_both start true l r (count + m) (count + n) (is (two start true (count + m) (count + n)) at) in
        pair_leaves has start true f g off (a m f e s (in_front f g w)) (b n g d t (behind f g w))
    both_stands _ l r _ (stands.by_either p m n f g at s t) w is (a, _) (b, _) =
        let (off, e, d) = two_are_both start false l r (count + m) (count + n) (is (two start false (count + m) (count + n)) at) in
        pair_leaves has start false f g off (a m f e s (in_front f g w)) (b n g d t (behind f g w))

    sound_both : (P l r : ℕ) → slice_get system P ≡ Some (condition.Both l r) → Sound l → Sound r → Sound P
    sound_both P l r is x y = (
      λ p f e s w. both_stands p l r f s w (λ d at. condition_at P p (condition.Both l r) d e is at) x y,
      λ i there. elim (placed P i there) [
        | inl n ↦ let z : Some (condition.Both l r) ≡ Some condition.Never = sym is ∙ n in absurd cc
        | inr (f, m, h, w, s) ↦ let z : Some (condition.Both l r) ≡ Some (condition.When (count + m)) = sym is ∙ w in absurd cc
      ],
    )

    either_stands : (p l r : ℕ) (f : Formula ℕ) → At p f → AllFit Fits f → ((d : Condition) → slice_get parts p ≡ Some d → condition.Either l r ≡ d) →
        Sound l ⊎ Sound r → Left f
    either_stands _ l r _ (stands.by_value p b at) w is x = absurd (told_not_either start b l r (is (told start b) at))
    either_stands _ l r _ (stands.by_known p i v k at) w is x = absurd (told_not_either start (truth_of v) l r (is (told start (truth_of v)) at))
    either_stands _ l r _ (stands.by_place p m i k there at) w is x =
        let z : condition.Either l r ≡ condition.When m = is (condition.When m) at in absurd cc
    either_stands _ l r _ (stands.nowhere p i k gone at) w is x =
        let z : condition.Either l r ≡ condition.Never = is condition.Never at in absurd cc
    either_stands _ l r _ (stands.by_both p m n f g at s t) w is x =
        let (on, e, d) = two_are_either start true l r (count + m) (count + n) (is (two start true (count + m) (count + n)) at) in
        one_leaves has start true f g on (elim x [ inl y ↦ inl (y.0 m f e s (in_front f g w)) | inr y ↦ inr (y.0 n g d t (behind f g w)) ])
    either_stands _ l r _ (stands.by_either p m n f g at s t) w is x =
        let (on, e, d) = two_are_either start false l r (count + m) (count + n) (is (two start false (count + m) (count + n)) at) in
        one_leaves has start false f g on (elim x [ inl y ↦ inl (y.0 m f e s (in_front f g w)) | inr y ↦ inr (y.0 n g d t (behind f g w)) ])

    sound_either : (P l r : ℕ) → slice_get system P ≡ Some (condition.Either l r) → Sound l ⊎ Sound r → Sound P
    sound_either P l r is x = (
      λ p f e s w. either_stands p l r f s w (λ d at. condition_at P p (condition.Either l r) d e is at) x,
      λ i there. elim (placed P i there) [
        | inl n ↦ let z : Some (condition.Either l r) ≡ Some condition.Never = sym is ∙ n in absurd cc
        | inr (f, m, h, w, s) ↦ let z : Some (condition.Either l r) ≡ Some (condition.When (count + m)) = sym is ∙ w in absurd cc
      ],
    )

    -- what is derived leaves the start value
    pub sound : (P : ℕ) → Derives system P → Sound P
    sound _ (always P is) = sound_always P is
    sound _ (follows P q is d) = sound_when P q is (sound q d)
    sound _ (by_both P l r is d e) = sound_both P l r is (sound l d) (sound r e)
    sound _ (by_one P l r is d) = sound_either P l r is (inl (sound l d))
    sound _ (by_other P l r is d) = sound_either P l r is (inr (sound r d))

  module _ (one : (i : Instance ℕ) (f g : Formula ℕ) → has i f → has i g → f ≡ g)
      (Fits : Instance ℕ → Type 0)
      (right : (i : Instance ℕ) (v : Value ℕ) → Fits i → kept i ≡ Some v → Left (Asks i) → bool_eq (truth_of v) start ≡ false)
      (apart : (p q : ℕ) (i : Instance ℕ) → slice_get insts p ≡ Some i → slice_get insts q ≡ Some i → p ≡ q)
      (Good : ℕ → Type 0) where
    -- it fits, and is known or stands at a good position
    abbrev Within : Instance ℕ → Type 0
    Within i = Fits i × (IsSome (kept i) ⊎ ((q : ℕ) × Good q × (slice_get insts q ≡ Some i)))

    module _ (closed : (q : ℕ) (i : Instance ℕ) → Good q → slice_get insts q ≡ Some i → (f : Formula ℕ) × (r : ℕ) × has i f
        × (slice_get system q ≡ Some (condition.When (count + r))) × At r f × ((k : Instance ℕ) → Among k (atoms f) → Within k)) where
      -- the condition that stands for a formula of one form
      value_at : (p : ℕ) (f : Formula ℕ) (b : Bool) → At p f → f ≡ formula.Known (Truth b) → slice_get parts p ≡ Some (told start b)
      value_at _ _ b (stands.by_value p c at) e = let same : c ≡ b = cc in subst (λ z. slice_get parts p ≡ Some (told start z)) same at
      value_at _ _ b (stands.by_known p i v k at) e = absurd cc
      value_at _ _ b (stands.by_place p q i k there at) e = absurd cc
      value_at _ _ b (stands.nowhere p i k gone at) e = absurd cc
      value_at _ _ b (stands.by_both p l r f g at x y) e = absurd cc
      value_at _ _ b (stands.by_either p l r f g at x y) e = absurd cc

      derived_at : (p : ℕ) (c : Condition) → slice_get parts p ≡ Some c → slice_get system (count + p) ≡ Some c
      derived_at p c at = at_parts p ∙ at

      asked_at : (p : ℕ) (f : Formula ℕ) (i : Instance ℕ) → At p f → f ≡ Asks i → Within i → Left (Asks i) →
          ((q : ℕ) → slice_get insts q ≡ Some i → Good q → Derives system q) → Derives system (count + p)
      asked_at _ _ i (stands.by_value p c at) e w l then' = absurd cc
      asked_at _ _ i (stands.by_known p j v k at) e w l then' =
          let same : j ≡ i = cc in
          let off = right j v (subst Fits (sym same) w.0) k (subst (λ z. Left (Asks z)) (sym same) l) in
          always (count + p) (derived_at p condition.Always (subst (λ z. slice_get parts p ≡ Some z) (always_value start (truth_of v) off) at))
      asked_at _ _ i (stands.by_place p q j k there at) e w l then' =
          let same : j ≡ i = cc in
          let here = subst (λ z. slice_get insts q ≡ Some z) same there in
          follows (count + p) q (derived_at p (condition.When q) at) (then' q here (elim w.1 [
            | inl s ↦ absurd (no_value (kept i) (subst (λ z. kept z ≡ None) same k) s)
            | inr (m, good, at_m) ↦ subst Good (apart m q i at_m here) good
          ]))
      asked_at _ _ i (stands.nowhere p j k gone at) e w l then' =
          let same : j ≡ i = cc in absurd (elim w.1 [
            | inl s ↦ no_value (kept i) (subst (λ z. kept z ≡ None) same k) s
            | inr (m, good, at_m) ↦ gone (subst (λ z. Among z insts) (sym same) (there_among insts m i at_m))
          ])
      asked_at _ _ i (stands.by_both p l r f g at x y) e w m then' = absurd cc
      asked_at _ _ i (stands.by_either p l r f g at x y) e w m then' = absurd cc

      -- the operands of a condition for two formulas
      abbrev Operands : ℕ → Bool → Formula ℕ → Formula ℕ → Type 0
      Operands p c f g = (l : ℕ) × (r : ℕ) × (slice_get parts p ≡ Some (two start c (count + l) (count + r))) × At l f × At r g

      both_at : (p : ℕ) (h f g : Formula ℕ) → At p h → h ≡ Both f g → Operands p true f g
      both_at _ _ f g (stands.by_value p c at) e = absurd cc
      both_at _ _ f g (stands.by_known p i v k at) e = absurd cc
      both_at _ _ f g (stands.by_place p q i k there at) e = absurd cc
      both_at _ _ f g (stands.nowhere p i k gone at) e = absurd cc
      both_at _ _ f g (stands.by_both p l r m n at x y) e =
          let a : m ≡ f = cc in let b : n ≡ g = cc in (l, r, at, subst (At l) a x, subst (At r) b y)
      both_at _ _ f g (stands.by_either p l r m n at x y) e = absurd cc

      either_at : (p : ℕ) (h f g : Formula ℕ) → At p h → h ≡ Either f g → Operands p false f g
      either_at _ _ f g (stands.by_value p c at) e = absurd cc
      either_at _ _ f g (stands.by_known p i v k at) e = absurd cc
      either_at _ _ f g (stands.by_place p q i k there at) e = absurd cc
      either_at _ _ f g (stands.nowhere p i k gone at) e = absurd cc
      either_at _ _ f g (stands.by_both p l r m n at x y) e = absurd cc
      either_at _ _ f g (stands.by_either p l r m n at x y) e =
          let a : m ≡ f = cc in let b : n ≡ g = cc in (l, r, at, subst (At l) a x, subst (At r) b y)

      -- so does the condition for both, or for one
      abbrev Goes : Formula ℕ → Type 0
      Goes f = (p : ℕ) → At p f → ((k : Instance ℕ) → Among k (atoms f) → Within k) → Derives system (count + p)

      goes_both : (p : ℕ) (c : Bool) (f g : Formula ℕ) → bool_eq c start ≡ false → Operands p c f g → Goes f → Goes g →
          ((k : Instance ℕ) → Among k (atoms f) → Within k) → ((k : Instance ℕ) → Among k (atoms g) → Within k) → Derives system (count + p)
      goes_both p c f g off (l, r, at, x, y) a b v w =
          by_both (count + p) (count + l) (count + r)
          (derived_at p (condition.Both (count + l) (count + r))
          (subst (λ z. slice_get parts p ≡ Some z) (two_is_both start c (count + l) (count + r) off) at)) (a l x v) (b r y w)

      goes_left : (p : ℕ) (c : Bool) (f g : Formula ℕ) → bool_eq c start ≡ true → Operands p c f g → Goes f →
          ((k : Instance ℕ) → Among k (atoms f) → Within k) → Derives system (count + p)
      goes_left p c f g on (l, r, at, x, y) a v =
          by_one (count + p) (count + l) (count + r)
          (derived_at p (condition.Either (count + l) (count + r))
          (subst (λ z. slice_get parts p ≡ Some z) (two_is_either start c (count + l) (count + r) on) at)) (a l x v)

      goes_right : (p : ℕ) (c : Bool) (f g : Formula ℕ) → bool_eq c start ≡ true → Operands p c f g → Goes g →
          ((k : Instance ℕ) → Among k (atoms g) → Within k) → Derives system (count + p)
      goes_right p c f g on (l, r, at, x, y) b w =
          by_other (count + p) (count + l) (count + r)
          (derived_at p (condition.Either (count + l) (count + r))
          (subst (λ z. slice_get parts p ≡ Some z) (two_is_either start c (count + l) (count + r) on) at)) (b r y w)

      -- what leaves the start value is derived
      pub complete : (s : Bool) (f : Formula ℕ) → s ≡ start → Leaves has s f → Goes f
      complete _ _ e (known b) p at w =
          always (count + p) (derived_at p condition.Always (value_at p (formula.Known (Truth (not b))) (not b) at refl
          ∙ ap Some (always_value start (not b) (subst (λ z. bool_eq (not b) z ≡ false) e (not_itself b)))))
      complete _ _ e (asks b i f h l) p at w =
          asked_at p (Asks i) i at refl (w i (inl refl)) (subst (λ z. Leaves has z (Asks i)) e (asks b i f h l))
          (λ q there good. let (g, r, x, is, st, all) = closed q i good there in
          let same : g ≡ f = one i g f x h in
          follows q (count + r) is (complete b f e l r (subst (At r) same st) (subst (λ z. (k : Instance ℕ) → Among k (atoms z) → Within k) same all)))
      complete _ _ e (true_both {f} {g} x y) p at w =
          goes_both p true f g (sym (ap (bool_eq true) e)) (both_at p (Both f g) f g at refl) (complete false f e x) (complete false g e y)
          (λ k h. w k (front_among k (atoms f) (atoms g) h)) (λ k h. w k (back_among k (atoms f) (atoms g) h))
      complete _ _ e (true_left {f} {g} x) p at w =
          goes_left p false f g (sym (ap (bool_eq false) e)) (either_at p (Either f g) f g at refl) (complete false f e x)
          (λ k h. w k (front_among k (atoms f) (atoms g) h))
      complete _ _ e (true_right {f} {g} y) p at w =
          goes_right p false f g (sym (ap (bool_eq false) e)) (either_at p (Either f g) f g at refl) (complete false g e y)
          (λ k h. w k (back_among k (atoms f) (atoms g) h))
      complete _ _ e (false_left {f} {g} x) p at w =
          goes_left p true f g (sym (ap (bool_eq true) e)) (both_at p (Both f g) f g at refl) (complete true f e x)
          (λ k h. w k (front_among k (atoms f) (atoms g) h))
      complete _ _ e (false_right {f} {g} y) p at w =
          goes_right p true f g (sym (ap (bool_eq true) e)) (both_at p (Both f g) f g at refl) (complete true g e y)
          (λ k h. w k (back_among k (atoms f) (atoms g) h))
      complete _ _ e (false_both {f} {g} x y) p at w =
          goes_both p false f g (sym (ap (bool_eq false) e)) (either_at p (Either f g) f g at refl) (complete true f e x) (complete true g e y)
          (λ k h. w k (front_among k (atoms f) (atoms g) h)) (λ k h. w k (back_among k (atoms f) (atoms g) h))

      -- so is the instance at a good position
      pub instance_derived : (q : ℕ) (i : Instance ℕ) → Good q → slice_get insts q ≡ Some i → Left (Asks i) → Derives system q
      instance_derived q i good there l = by start refl l
        where
          by : (s : Bool) → s ≡ start → Leaves has s (Asks i) → Derives system q
          by s e (asks _ _ f h m) =
              let (g, r, x, is, st, all) = closed q i good there in
              let same : g ≡ f = one i g f x h in
              follows q (count + r) is (complete s f e m r (subst (At r) same st) (subst (λ z. (k : Instance ℕ) → Among k (atoms z) → Within k) same all))

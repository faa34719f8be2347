-- Classes that are numbered depth first, one at a time.
use Rattle.std.proofs.Common.{◌≡◌, ℕ, zero, suc, ◌+◌, ◌<◌, ◌≤◌, refl, ap, sym, ◌∙◌, subst, arith, true≢false, eq-eqb}
use Rattle.std.proofs.Common.{List, [], ◌∷◌, length, Option, Some, None, Bool, true, false}
use Rattle.std.specs.Prelude.{◌↔◌, ◌||◌, nat_eq, nat_le, nat_lt, set}
use Rattle.std.specs.List.{list_any}
use Rattle.std.proofs.lemmas.Bool.{eqb-true, ltb-true, ltb-false, leb-true, leb-false, lt-ltb, le-leb}
use Rattle.std.proofs.lemmas.Bool.{and_from, or_left, or_right}
use Rattle.std.proofs.lemmas.List.{get_or-set_same, get_or-set_other}
use Rattle.at_model.specs.Classes.{Classes, chain, chain_within, is_sub, parent_of}
use Rattle.at_model.specs.WellFormed.{IsHierarchy}
use Rattle.at_model.proofs.LedUp.{has_parent}
use Rattle.at_model.proofs.Options.{both}
use Rattle.at_class.specs.Ways.{AreLed}
use Rattle.at_class.specs.Intervals.{AreIntervals, AreNumbered, Has, IsOn, IsOpen, empty, has, interval_at, is_empty}
use Rattle.at_class.specs.declared.intervals.Interval.{Interval}
use Rattle.at_class.proofs.Chains.{chain_within-none}
use Rattle.at_class.proofs.Descents.{step}

no_way : {A : Type 0} → false ≡ true → A
no_way e = absurd (true≢false (sym e))

-- ways up -------------------------------------------------------------------------------------------------------------

-- the class itself is the first on its way up
on_own : (classes : Classes) → AreLed classes → (c b : ℕ) → nat_eq b c ≡ true → IsOn classes b (Some c)
on_own classes led c b e = ap (list_any (nat_eq b)) (step classes led c) ∙ or_left (nat_eq b c) _ e

on_above : (classes : Classes) → AreLed classes → (c b : ℕ) → IsOn classes b (parent_of classes c)
    → IsOn classes b (Some c)
on_above classes led c b e = ap (list_any (nat_eq b)) (step classes led c) ∙ or_right (nat_eq b c) _ e

-- another class on the way is on that of the superclass
on_other : (classes : Classes) → AreLed classes → (c b : ℕ) → nat_eq b c ≡ false → IsOn classes b (Some c)
    → IsOn classes b (parent_of classes c)
on_other classes led c b e on =
    let rest = list_any (nat_eq b) (chain_within (length classes) classes (parent_of classes c)) in
    ap (λ s. s || rest) (sym e) ∙ sym (ap (list_any (nat_eq b)) (step classes led c)) ∙ on

on_none : {A : Type 0} → (classes : Classes) (b : ℕ) → IsOn classes b None → A
on_none classes b e = no_way (sym (ap (list_any (nat_eq b)) (chain_within-none classes (length classes))) ∙ e)

-- no class is above itself
not_on : (classes : Classes) → IsHierarchy classes → (c : ℕ) → IsOn classes c (parent_of classes c) → ⊥
not_on classes h c on = by (parent_of classes c) refl
  where
    by : (o : Option ℕ) → parent_of classes c ≡ o → ⊥
    by None e = on_none classes c (subst (IsOn classes c) e on)
    by (Some p) e = true≢false (sym on ∙ h.no_circle c (has_parent classes c p e))

-- intervals that change at one class ----------------------------------------------------------------------------------

abbrev pub Same : (ℕ → Interval) → (ℕ → Interval) → ℕ → Type 0
Same old new but = (b : ℕ) → nat_eq b but ≡ false → new b ≡ old b

abbrev pub span : ℕ → ℕ → Interval
span first end = record { first = first; end = end }

-- an interval with a number is that of a class that is there
there : (is : List Interval) (c : ℕ) → 0 < (interval_at is c).end → c < length is
there [] c h = absurd (omega (arith, h))
there (i ∷ is) zero h = omega arith
there (i ∷ is) (suc c) h = let l = there is c h in omega (arith, l)

put_there : (is : List Interval) (c : ℕ) (i : Interval) → c < length is → interval_at (set is c i) c ≡ i
put_there is c i less = get_or-set_same is c i empty less

put_other : (is : List Interval) (c : ℕ) (i : Interval) → Same (interval_at is) (interval_at (set is c i)) c
put_other is c i b e = get_or-set_other is c b i empty (λ f. true≢false (sym (eq-eqb b c f) ∙ e))

-- the lowest class is closed ------------------------------------------------------------------------------------------

module _ (classes : Classes) (end next : ℕ) (old new : ℕ → Interval) (t : ℕ)
    (n : AreNumbered classes end next old (Some t)) (less : next < end)
    (is : new t ≡ span (old t).first next) (other : Same old new t) where
  open_there : IsOpen end (old t)
  open_there = (n.rising t).0 (on_own classes n.led t t (eq-eqb t t refl))

  begins : (c : ℕ) → (new c).first ≡ (old c).first
  begins c = by (nat_eq c t) refl
    where
      by : (s : Bool) → nat_eq c t ≡ s → (new c).first ≡ (old c).first
      by true e = subst (λ k. (new k).first ≡ (old k).first) (sym (eqb-true c t e)) (ap (λ i. i.first) is)
      by false e = ap (λ i. i.first) (other c e)

  -- it only becomes shorter, at numbers that weren't given
  ends : (c k : ℕ) → k < next → (k < (new c).end) ↔ (k < (old c).end)
  ends c k small = by (nat_eq c t) refl
    where
      by : (s : Bool) → nat_eq c t ≡ s → (k < (new c).end) ↔ (k < (old c).end)
      by true e = subst (λ x. (k < (new x).end) ↔ (k < (old x).end)) (sym (eqb-true c t e))
          ((λ h. omega (arith, small, less, open_there.1)), (λ h. omega (arith, small, ap (λ i. i.end) is)))
      by false e =
          let g : (new c).end ≡ (old c).end = ap (λ i. i.end) (other c e) in
          ((λ h. omega (arith, g, h)), (λ h. omega (arith, g, h)))

  had : (c : ℕ) → (new c).first < (new c).end → (old c).first < (old c).end
  had c h = by (nat_eq c t) refl
    where
      by : (s : Bool) → nat_eq c t ≡ s → (old c).first < (old c).end
      by true e = subst (λ k. (old k).first < (old k).end) (sym (eqb-true c t e))
          (omega (arith, open_there.0, open_there.1))
      by false e = subst (λ i. i.first < i.end) (other c e) h

  closed_now : (c : ℕ) → (new c).end < end → (new c).end ≤ next
  closed_now c h = by (nat_eq c t) refl
    where
      by : (s : Bool) → nat_eq c t ≡ s → (new c).end ≤ next
      by true e = subst (λ k. (new k).end ≤ next) (sym (eqb-true c t e)) (omega (arith, ap (λ i. i.end) is))
      by false e =
          let g : (new c).end ≡ (old c).end = ap (λ i. i.end) (other c e) in
          let l = n.closed c (omega (arith, g, h)) in
          omega (arith, g, l)

  rising_now : (b : ℕ) → IsOn classes b (parent_of classes t) ↔ IsOpen end (new b)
  rising_now b = by (nat_eq b t) refl
    where
      by : (s : Bool) → nat_eq b t ≡ s → IsOn classes b (parent_of classes t) ↔ IsOpen end (new b)
      by true e = subst (λ k. IsOn classes k (parent_of classes t) ↔ IsOpen end (new k)) (sym (eqb-true b t e)) (
        (λ on. absurd (not_on classes n.hierarchy t on)),
        (λ h. absurd (omega (arith, less, h.1, ap (λ i. i.end) is))),
      )
      by false e = subst (λ i. IsOn classes b (parent_of classes t) ↔ IsOpen end i) (sym (other b e)) (
        (λ on. (n.rising b).0 (on_above classes n.led t b on)),
        (λ h. on_other classes n.led t b e ((n.rising b).1 h)),
      )

  pub closing : AreNumbered classes end next new (parent_of classes t)
  closing = record {
    hierarchy = n.hierarchy;
    led = n.led;
    given = λ c h. let l = n.given c (had c h) in omega (arith, l, begins c);
    closed = closed_now;
    rising = rising_now;
    right = λ c b h.
        let first = begins c in
        let first-b = begins b in
        let l = n.given c (had c h) in
        let r = n.right c b (had c h) in
        let e = ends b (old c).first l in (
          (λ on.
              let f = r.0 on in
              let g = e.1 f.1 in
              (omega (arith, first, first-b, f.0), omega (arith, first, g))),
          (λ f.
              let g = e.0 (omega (arith, first, f.1)) in
              r.1 (omega (arith, first, first-b, f.0), g)),
        );
  }

-- a class below the lowest one is opened ------------------------------------------------------------------------------

-- what isn't closed ends behind all numbers
unclosed : (end next e : ℕ) → (e < end → e ≤ next) → next < e → end ≤ e
unclosed end next e closed h = by (nat_lt e end) refl
  where
    by : (s : Bool) → nat_lt e end ≡ s → end ≤ e
    by true f = let l = closed (ltb-true e end f) in absurd (omega (arith, l, h))
    by false f = ltb-false e end f

abbrev pub Covers : Classes → Interval → Interval → ℕ → ℕ → Type 0
Covers classes i j c b = IsOn classes b (Some c) ↔ Has j i.first

module _ (classes : Classes) (end next : ℕ) (old new : ℕ → Interval) (t : ℕ)
    (n : AreNumbered classes end next old (parent_of classes t)) (less : next < end)
    (none : (old t).end ≤ (old t).first)
    (is : new t ≡ span next end) (other : Same old new t) where
  given_more : (c : ℕ) → (new c).first < (new c).end → (new c).first < next + 1
  given_more c h = by (nat_eq c t) refl
    where
      by : (s : Bool) → nat_eq c t ≡ s → (new c).first < next + 1
      by true e = subst (λ k. (new k).first < next + 1) (sym (eqb-true c t e)) (omega (arith, ap (λ i. i.first) is))
      by false e =
          let l = n.given c (subst (λ i. i.first < i.end) (other c e) h) in
          omega (arith, l, ap (λ i. i.first) (other c e))

  closed_more : (c : ℕ) → (new c).end < end → (new c).end ≤ next + 1
  closed_more c h = by (nat_eq c t) refl
    where
      by : (s : Bool) → nat_eq c t ≡ s → (new c).end ≤ next + 1
      by true e = absurd (omega (arith, ap (λ i. i.end) (ap new (eqb-true c t e) ∙ is), h))
      by false e =
          let g : (new c).end ≡ (old c).end = ap (λ i. i.end) (other c e) in
          let l = n.closed c (omega (arith, g, h)) in
          omega (arith, g, l)

  rising_more : (b : ℕ) → IsOn classes b (Some t) ↔ IsOpen end (new b)
  rising_more b = by (nat_eq b t) refl
    where
      by : (s : Bool) → nat_eq b t ≡ s → IsOn classes b (Some t) ↔ IsOpen end (new b)
      by true e =
          let f = ap new (eqb-true b t e) ∙ is in (
            (λ on. (omega (arith, less, ap (λ i. i.first) f), omega (arith, ap (λ i. i.end) f))),
            (λ h. on_own classes n.led t b e),
          )
      by false e = subst (λ i. IsOn classes b (Some t) ↔ IsOpen end i) (sym (other b e)) (
        (λ on. (n.rising b).0 (on_other classes n.led t b e on)),
        (λ h. on_above classes n.led t b ((n.rising b).1 h)),
      )

  -- from the class that is opened
  from_it : (b : ℕ) → Covers classes (span next end) (new b) t b
  from_it b = by (nat_eq b t) refl
    where
      by : (s : Bool) → nat_eq b t ≡ s → Covers classes (span next end) (new b) t b
      by true e = subst (λ i. Covers classes (span next end) i t b) (sym (ap new (eqb-true b t e) ∙ is))
          ((λ on. (omega arith, omega (arith, less))), (λ h. on_own classes n.led t b e))
      by false e = subst (λ i. Covers classes (span next end) i t b) (sym (other b e)) (
        (λ on.
            let h = (n.rising b).0 (on_other classes n.led t b e on) in
            let l = n.given b (omega (arith, h.0, h.1)) in
            (omega (arith, l), omega (arith, less, h.1))),
        (λ h.
            let is_open : IsOpen end (old b) = (omega (arith, less, h.0), unclosed end next (old b).end (n.closed b) h.1) in
            on_above classes n.led t b ((n.rising b).1 is_open)),
      )

  -- and from any other
  from_other : (c b : ℕ) → (old c).first < (old c).end → Covers classes (old c) (new b) c b
  from_other c b h = by (nat_eq b t) refl
    where
      by : (s : Bool) → nat_eq b t ≡ s → Covers classes (old c) (new b) c b
      by true e =
          let f = eqb-true b t e in
          let l = n.given c h in
          subst (λ i. Covers classes (old c) i c b) (sym (ap new f ∙ is)) (
            (λ on.
                let r = (n.right c t h).0 (subst (λ k. IsOn classes k (Some c)) f on) in
                absurd (omega (arith, none, r.0, r.1))),
            (λ r. absurd (omega (arith, l, r.0))),
          )
      by false e = subst (λ i. Covers classes (old c) i c b) (sym (other b e)) (n.right c b h)

  right_more : (c b : ℕ) → (new c).first < (new c).end → Covers classes (new c) (new b) c b
  right_more c b h = by (nat_eq c t) refl
    where
      by : (s : Bool) → nat_eq c t ≡ s → Covers classes (new c) (new b) c b
      by true e =
          let f = eqb-true c t e in
          subst (λ i. Covers classes i (new b) c b) (sym (ap new f ∙ is))
          (subst (λ k. Covers classes (span next end) (new b) k b) (sym f) (from_it b))
      by false e = subst (λ i. Covers classes i (new b) c b) (sym (other c e))
          (from_other c b (subst (λ i. i.first < i.end) (other c e) h))

  pub opening : AreNumbered classes end (next + 1) new (Some t)
  opening = record {
    hierarchy = n.hierarchy;
    led = n.led;
    given = given_more;
    closed = closed_more;
    rising = rising_more;
    right = right_more;
  }

-- the code's steps ----------------------------------------------------------------------------------------------------

pub closes : (classes : Classes) (end next : ℕ) (is : List Interval) (t : ℕ) (i : Interval) → next < end
    → AreNumbered classes end next (interval_at is) (Some t) → i ≡ span (interval_at is t).first next
    → AreNumbered classes end next (interval_at (set is t i)) (parent_of classes t)
closes classes end next is t i less n e =
    let up = (n.rising t).0 (on_own classes n.led t t (eq-eqb t t refl)) in
    closing classes end next (interval_at is) (interval_at (set is t i)) t n less
    (put_there is t i (there is t (omega (arith, less, up.1))) ∙ e) (put_other is t i)

pub opens : (classes : Classes) (end next : ℕ) (is : List Interval) (t : ℕ) → next < end
    → AreNumbered classes end next (interval_at is) (parent_of classes t)
    → t < length is → is_empty (interval_at is t) ≡ true
    → AreNumbered classes end (next + 1) (interval_at (set is t (span next end))) (Some t)
opens classes end next is t less n within none =
    opening classes end next (interval_at is) (interval_at (set is t (span next end))) t n less
    (leb-true (interval_at is t).end (interval_at is t).first none)
    (put_there is t (span next end) within) (put_other is t (span next end))

alike : (s t : Bool) → (s ≡ true → t ≡ true) → (t ≡ true → s ≡ true) → s ≡ t
alike true t to from = sym (to refl)
alike false true to from = from refl
alike false false to from = refl

-- the intervals tell which class is below which
pub intervals_tell : (classes : Classes) (end next : ℕ) (is : List Interval) (lowest : Option ℕ)
    → AreNumbered classes end next (interval_at is) lowest → AreIntervals classes is
unfolding chain
intervals_tell classes end next is lowest n c b e =
    let i = interval_at is c in
    let j = interval_at is b in
    let r = n.right c b (leb-false i.end i.first e) in
    let begun = nat_le j.first i.first in
    let ending = nat_lt i.first j.end in
    alike (is_sub classes c b) (has j i.first)
    (λ on. and_from begun ending (le-leb j.first i.first (r.0 on).0) (lt-ltb i.first j.end (r.0 on).1))
    (λ h. let p = both begun ending h in r.1 (leb-true j.first i.first p.0, ltb-true i.first j.end p.1))

-- What was made, one part behind the other.
use Rattle.std.proofs.Common.{◌≡◌, ◌≤◌, ◌+◌, ◌-◌, ◌^◌, ◌⊎◌, min, inl, inr, ℕ, Bool, true, false, List, [], ◌∷◌, ◌++◌, length, length-append, Option, None, Some, refl, sym, ap, ◌∙◌, subst, arith, if◌then◌else◌, true≢false}
use Rattle.std.specs.Prelude.{IsSome, nat_lt}
use Rattle.std.proofs.lemmas.Bool.{ltb-false, ltb-true}
use Rattle.std.proofs.lemmas.Option.{none-some}
use Rattle.at_model.specs.Run.{Instance, Location, Value}
use Rattle.at_model.specs.Meaning.{Among}
use Rattle.at_body.specs.Same.{same_instance}
use Rattle.at_model.proofs.Listed.{among_left, among_right}
use Rattle.at_cache.specs.Kept.{Entries, Kept, Puts, value_at}
use Rattle.at_cache.specs.Traced.{AreAlike, IsOutdated, IsSpared, Memories, PutsTrace, Settled, SparesOthers, StayTraced, Trace, nothing, one_more as settles}
use Rattle.at_cache.specs.declared.keeper.Order.{Order}
use Rattle.at_evaluate.specs.Valued.{kept_values, KeepsEntries}
use Rattle.at_evaluate.specs.Made.{HasTrace, Makes}
use Rattle.at_evaluate.proofs.Counting.{among_parts, distinct_append}
use Rattle.at_evaluate.proofs.Entered.{entered_on, not_none, value_on}
use Rattle.at_evaluate.proofs.Sameness.{same_refl, same_true}
use Rattle.at_evaluate.proofs.of_nesting.InnerGains.{put_there}

no_more : (n : ℕ) → n ≡ n + 0
no_more n = omega arith

-- no value came to be kept but such as could be kept again
abbrev AreRetaken : Entries → Entries → Memories → Type 0
AreRetaken e f m = (i : Instance ℕ) (v : Value ℕ) → kept_values e i ≡ None → kept_values f i ≡ Some v → HasTrace m i v

-- so it is where no value came
pub still_retaken : (e f : Entries) (m : Memories) → ((i : Instance ℕ) → kept_values f i ≡ kept_values e i) → AreRetaken e f m
still_retaken e f m still i v none is = absurd (none-some v (sym (still i ∙ none) ∙ is))

one_value : (o : Option (Value ℕ)) (v w : Value ℕ) → o ≡ Some w → o ≡ Some v → w ≡ v
one_value o v w here later = cc

-- what was settled could be
settled_retaken : (m : Memories) (q : Instance ℕ) (c : ℕ) (e f : Entries) → Settled m q c e f → AreRetaken e f m
settled_retaken m q _ e _ (nothing _) i v none is = still_retaken e e m (λ j. refl) i v none is
settled_retaken m q _ e f (settles c _ mid _ j t before next traced absent all puts) i v none is =
    by (same_instance j i) refl (puts.adds i) (settled_retaken m q c e mid before i v none)
  where
    by : (b : Bool) → same_instance j i ≡ b → f i ≡ (if b then Some puts.entry else mid i) → (kept_values mid i ≡ Some v → HasTrace m i v)
        → HasTrace m i v
    by true same at earlier = (
      t,
      subst (λ x. m.traced x ≡ Some t) (same_true j i same) traced,
      one_value (kept_values f i) v t.value (ap value_at at ∙ puts.value) is,
    )
    by false off at earlier = earlier (sym (ap value_at at) ∙ is)

-- nothing was made, and all can be kept again that could
makes_alike : (e f : Entries) (m n : Memories) (k : ℕ) → AreRetaken e f m → AreAlike m n → Makes e f m n k k
makes_alike e f m n k again same = record {
  made = [];
  came = λ i h. absurd h;
  once = tt;
  reason = λ i t h. absurd h;
  spares = λ i t h. inl (same.traced i ∙ h);
  last = λ u. inl (same.last u);
  rest = λ i v none is. inr (again i v none is);
  fresh = λ i t h. inl (sym (same.traced i) ∙ h);
  count = inl (no_more k);
}

-- values were kept again
pub makes_settled : (q : Instance ℕ) (c : ℕ) (e f : Entries) (m n : Memories) (k : ℕ) → Settled m q c e f → AreAlike m n → Makes e f m n k k
makes_settled q c e f m n k steps same = makes_alike e f m n k (settled_retaken m q c e f steps) same

pub makes_none : (e : Entries) (m : Memories) (k : ℕ) → Makes e e m m k k
makes_none e m k = makes_alike e e m m k (still_retaken e e m (λ i. refl)) (record { traced = λ i. refl; last = λ i. refl })

-- the same where the number is
pub makes_from : {e f : Entries} {m n : Memories} {j k l : ℕ} → k ≡ j → Makes e f m n k l → Makes e f m n j l
makes_from {e} {f} {m} {n} {j} {k} {l} same a = subst (λ z. Makes e f m n z l) same a

pub makes_as : {e f : Entries} {m n : Memories} {j k l : ℕ} → l ≡ k → Makes e f m n j k → Makes e f m n j l
makes_as {e} {f} {m} {n} {j} {k} {l} same a = subst (λ z. Makes e f m n j z) (sym same) a

-- what has no entry had none
was_none : (e f : Entries) → KeepsEntries e f → (i : Instance ℕ) → f i ≡ None → (x : Option Kept) → e i ≡ x → e i ≡ None
was_none e f first i none None is = is
was_none e f first i none (Some x) is = absurd (not_none (f i) (entered_on e f first i (subst IsSome (sym is) refl)) none)

summed : (j k l x y s : ℕ) → s ≡ x + y → (k ≡ j + x) ⊎ (2 ^ 64 - 1 ≤ k) → (l ≡ k + y) ⊎ (2 ^ 64 - 1 ≤ l)
    → (l ≡ j + s) ⊎ (2 ^ 64 - 1 ≤ l)
summed j k l x y s sum (inl p) (inl q) = inl (omega (arith, sum, p, q))
summed j k l x y s sum (inr p) (inl q) = inr (omega (arith, p, q))
summed j k l x y s sum p (inr q) = inr q

module _ (e f g : Entries) (m n o : Memories) (j k l : ℕ) (first : KeepsEntries e f) (next : KeepsEntries f g)
    (a : Makes e f m n j k) (b : Makes f g n o k l) where
  early : (t : Trace) → IsOutdated m n t → IsOutdated m o t
  early t h = by (a.last h.one) (b.last h.one)
    where
      by : (n.last h.one ≡ m.last h.one) ⊎ ((e h.one ≡ None) × IsSome (f h.one))
          → (o.last h.one ≡ n.last h.one) ⊎ ((f h.one ≡ None) × IsSome (g h.one)) → IsOutdated m o t
      by (inl same) y = absurd (h.another same)
      by (inr x) (inl same) = record { one = h.one; used = h.used; another = λ is. h.another (sym same ∙ is) }
      by (inr x) (inr y) = absurd (not_none (f h.one) x.1 y.0)

  late : (t : Trace) → IsOutdated n o t → IsOutdated m o t
  late t h = by (a.last h.one) (b.last h.one)
    where
      by : (n.last h.one ≡ m.last h.one) ⊎ ((e h.one ≡ None) × IsSome (f h.one))
          → (o.last h.one ≡ n.last h.one) ⊎ ((f h.one ≡ None) × IsSome (g h.one)) → IsOutdated m o t
      by x (inl same) = absurd (h.another same)
      by (inl same) (inr y) = record { one = h.one; used = h.used; another = λ is. h.another (is ∙ sym same) }
      by (inr x) (inr y) = absurd (not_none (f h.one) x.1 y.0)

  spared_then : (i : Instance ℕ) (t : Trace) → m.traced i ≡ Some t → IsSpared m o i t
  spared_then i t h = by (a.spares i t h)
    where
      next_spares : IsSpared n o i t → IsSpared m o i t
      next_spares (inl still) = inl still
      next_spares (inr x) = inr (late t x)

      by : IsSpared m n i t → IsSpared m o i t
      by (inl still) = next_spares (b.spares i t still)
      by (inr x) = inr (early t x)

  reason_then : (i : Instance ℕ) (t : Trace) → Among i (a.made ++ b.made) → m.traced i ≡ Some t → IsOutdated m o t
  reason_then i t among h = elim (among_parts a.made b.made i among) [
    | inl x ↦ early t (a.reason i t x h)
    | inr y ↦ by y (a.spares i t h)
  ]
    where
      by : Among i b.made → IsSpared m n i t → IsOutdated m o t
      by y (inl still) = late t (b.reason i t y still)
      by y (inr x) = early t x

  last_then : (u : Instance ℕ) → (o.last u ≡ m.last u) ⊎ ((e u ≡ None) × IsSome (g u))
  last_then u = by (a.last u) (b.last u)
    where
      by : (n.last u ≡ m.last u) ⊎ ((e u ≡ None) × IsSome (f u))
          → (o.last u ≡ n.last u) ⊎ ((f u ≡ None) × IsSome (g u)) → (o.last u ≡ m.last u) ⊎ ((e u ≡ None) × IsSome (g u))
      by (inl x) (inl y) = inl (y ∙ x)
      by (inl x) (inr y) = inr (was_none e f first u y.0 (e u) refl, y.1)
      by (inr x) y = inr (x.0, entered_on f g next u x.1)

  fresh_then : (i : Instance ℕ) (t : Trace) → o.traced i ≡ Some t → (m.traced i ≡ Some t) ⊎ ((e i ≡ None) × IsSome (g i))
  fresh_then i t h = by (b.fresh i t h)
    where
      first_fresh : (m.traced i ≡ Some t) ⊎ ((e i ≡ None) × IsSome (f i)) → (m.traced i ≡ Some t) ⊎ ((e i ≡ None) × IsSome (g i))
      first_fresh (inl was) = inl was
      first_fresh (inr x) = inr (x.0, entered_on f g next i x.1)

      by : (n.traced i ≡ Some t) ⊎ ((f i ≡ None) × IsSome (g i)) → (m.traced i ≡ Some t) ⊎ ((e i ≡ None) × IsSome (g i))
      by (inl still) = first_fresh (a.fresh i t still)
      by (inr y) = inr (was_none e f first i y.0 (e i) refl, y.1)

  -- an entry that has no value gets none
  unvalued : (i : Instance ℕ) (v : Value ℕ) → kept_values f i ≡ None → kept_values g i ≡ Some v → IsSome (f i) → ⊥
  unvalued i v none is some = none-some v (sym (ap value_at (next i some) ∙ none) ∙ is)

  rest_then : (i : Instance ℕ) (v : Value ℕ) → kept_values e i ≡ None → kept_values g i ≡ Some v → Among i (a.made ++ b.made) ⊎ HasTrace m i v
  rest_then i v none is = by (kept_values f i) refl
    where
      early_rest : (w : Value ℕ) → w ≡ v → Among i a.made ⊎ HasTrace m i w → Among i (a.made ++ b.made) ⊎ HasTrace m i v
      early_rest w same (inl x) = inl (among_left i a.made b.made x)
      early_rest w same (inr x) = inr (subst (λ z. HasTrace m i z) same x)

      late_rest : kept_values f i ≡ None → Among i b.made ⊎ HasTrace n i v → Among i (a.made ++ b.made) ⊎ HasTrace m i v
      late_rest at (inl y) = inl (among_right i a.made b.made y)
      late_rest at (inr (t, there, same)) = elim (a.fresh i t there) [
        | inl was ↦ inr (t, was, same)
        | inr x ↦ absurd (unvalued i v at is x.1)
      ]

      by : (x : Option (Value ℕ)) → kept_values f i ≡ x → Among i (a.made ++ b.made) ⊎ HasTrace m i v
      by None at = late_rest at (b.rest i v at is)
      by (Some w) at = early_rest w (one_value (kept_values g i) v w (value_on f g next i w at) is) (a.rest i w none at)

  -- first one part, and then another one
  pub makes_then : Makes e g m o j l
  makes_then = record {
    made = a.made ++ b.made;
    came = λ i among. elim (among_parts a.made b.made i among) [
      | inl x ↦ (let p = a.came i x in (p.0, entered_on f g next i p.1))
      | inr y ↦ (let q = b.came i y in (was_none e f first i q.0 (e i) refl, q.1))
    ];
    once = distinct_append a.made b.made a.once b.once (λ i x y. let p = a.came i x in let q = b.came i y in
        not_none (f i) p.1 q.0);
    reason = reason_then;
    spares = spared_then;
    last = last_then;
    rest = rest_then;
    fresh = fresh_then;
    count = summed j k l (length a.made) (length b.made) (length (a.made ++ b.made)) (length-append a.made b.made) a.count b.count;
  }

-- one more, up to the greatest number
one_more : (k l most : ℕ) → l ≡ min (k + 1) most → (b : Bool) → nat_lt (k + 1) most ≡ b → (l ≡ k + 1) ⊎ (most ≤ l)
one_more k l most is true h = let less = ltb-true (k + 1) most h in inl (omega (arith, less, is))
one_more k l most is false h = let no = ltb-false (k + 1) most h in inr (omega (arith, no, is))

up_to : (k l most : ℕ) → l ≡ min (k + 1) most → (l ≡ k + 1) ⊎ (most ≤ l)
up_to k l most is = one_more k l most is (nat_lt (k + 1) most) refl

-- an instance was put that had no trace
module _ (e f : Entries) (m n : Memories) (i : Instance ℕ) (absent : e i ≡ None) (s : SparesOthers i f m n)
    (none : m.traced i ≡ None) where
  apart : (j : Instance ℕ) → same_instance i j ≡ false → i ≡ j → ⊥
  apart j off same = true≢false (sym (same_refl i) ∙ ap (same_instance i) same ∙ off)

  spares_put : (j : Instance ℕ) (t : Trace) → m.traced j ≡ Some t → IsSpared m n j t
  spares_put j t h = by (same_instance i j) refl
    where
      by : (b : Bool) → same_instance i j ≡ b → IsSpared m n j t
      by true is = absurd (none-some t (sym none ∙ subst (λ x. m.traced x ≡ Some t) (sym (same_true i j is)) h))
      by false is = s.spares j t (apart j is) h

  last_put : (u : Instance ℕ) → (n.last u ≡ m.last u) ⊎ ((e u ≡ None) × IsSome (f u))
  last_put u = by (s.last u)
    where
      by : (n.last u ≡ m.last u) ⊎ ((i ≡ u) × IsSome (f i)) → (n.last u ≡ m.last u) ⊎ ((e u ≡ None) × IsSome (f u))
      by (inl same) = inl same
      by (inr x) = inr (subst (λ z. e z ≡ None) x.0 absent, subst (λ z. IsSome (f z)) x.0 x.1)

  -- it isn't made, and has no value
  pub makes_unmade : ((j : Instance ℕ) → kept_values f j ≡ kept_values e j) → StayTraced m n → (k : ℕ) → Makes e f m n k k
  makes_unmade still stay k = record {
    made = [];
    came = λ j h. absurd h;
    once = tt;
    reason = λ j t h. absurd h;
    spares = spares_put;
    last = last_put;
    rest = λ j v none is. inr (still_retaken e f m still j v none is);
    fresh = λ j t h. let was = stay j t h in inl was.traced;
    count = inl (no_more k);
  }

  -- it is, where it is there
  pub makes_put : (v : Option (Value ℕ)) (ls : List (Location ℕ)) (us : List (Instance ℕ)) (x : Order) → Puts e i v ls us f
      → PutsTrace i v ls us x m n → (k l : ℕ) → l ≡ min (k + 1) (2 ^ 64 - 1) → Makes e f m n k l
  makes_put v ls us x puts traces k l more = record {
    made = i ∷ [];
    came = came_one;
    once = (λ h. h, tt);
    reason = reason_one;
    spares = spares_put;
    last = last_put;
    rest = λ j w none is. inl (made_one j w none is (same_instance i j) refl (puts.adds j));
    fresh = fresh_one;
    count = up_to k l (2 ^ 64 - 1) more;
  }
    where
      some : IsSome (f i)
      some = put_there e f i v ls us puts

      made_one : (j : Instance ℕ) (w : Value ℕ) → kept_values e j ≡ None → kept_values f j ≡ Some w → (b : Bool) → same_instance i j ≡ b
          → f j ≡ (if b then Some puts.entry else e j) → Among j (i ∷ [])
      made_one j w none is true same at = inl (sym (same_true i j same))
      made_one j w none is false off at = absurd (none-some w (sym (ap value_at at ∙ none) ∙ is))

      fresh_one : (j : Instance ℕ) (t : Trace) → n.traced j ≡ Some t → (m.traced j ≡ Some t) ⊎ ((e j ≡ None) × IsSome (f j))
      fresh_one j t h = elim (traces j t h) [
        | inl was ↦ inl was.traced
        | inr mine ↦ inr (subst (λ z. e z ≡ None) mine.0 absent, subst (λ z. IsSome (f z)) mine.0 some)
      ]

      came_one : (j : Instance ℕ) → Among j (i ∷ []) → (e j ≡ None) × IsSome (f j)
      came_one j (inl is) = (subst (λ x. e x ≡ None) (sym is) absent, subst (λ x. IsSome (f x)) (sym is) some)
      came_one j (inr h) = absurd h

      reason_one : (j : Instance ℕ) (t : Trace) → Among j (i ∷ []) → m.traced j ≡ Some t → IsOutdated m n t
      reason_one j t (inl is) h = absurd (none-some t (sym none ∙ subst (λ x. m.traced x ≡ Some t) is h))
      reason_one j t (inr x) h = absurd x

-- the same of an instance that is that one
pub unmade : (e f : Entries) (m n : Memories) (i j : Instance ℕ) → j ≡ i → e i ≡ None → SparesOthers j f m n → m.traced i ≡ None
    → ((u : Instance ℕ) → kept_values f u ≡ kept_values e u) → StayTraced m n → (k : ℕ) → Makes e f m n k k
unmade e f m n i j is absent s none still stay k =
    makes_unmade e f m n i absent (subst (λ x. SparesOthers x f m n) is s) none still stay k

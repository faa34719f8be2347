-- Where two trees are alike at all that supports an instance, it has a like outcome in both, leads to like instances,
-- and rests
-- on like locations, also where attributes are circular.
use Rattle.std.proofs.Common.{◌≡◌, ℕ, zero, suc, Bool, inl, inr, refl, sym, ◌∙◌, subst, ap}
use Rattle.at_model.specs.Run.{Value, Truth, Contents, Location, Instance}
use Rattle.at_model.specs.Meaning.{Outcome, Finds, Among, Reaches}
use Rattle.at_model.specs.Alike.{ValueLike, truth, InstanceLike, LocationLike, OutcomeLike, find, fault}
use Rattle.at_model.proofs.Reached.{front_among, back_among}
use Rattle.at_model.proofs.of_likeness.CarryingCircles.{Agrees, instance-agrees}
use Rattle.at_model.specs.of_fixpoints.Formulas.{Formula, atoms, Forms}
use Rattle.at_model.specs.of_fixpoints.Fixpoints.{End, HoldsOver, HoldsAt, EndsAt, Holds, HasValue, HasForm, EndsSo}
use Rattle.at_model.specs.of_fixpoints.Resting.{Comes, Leads, stays, goes, Supports}
use Rattle.at_model.specs.of_fixpoints.Likeness.{FormulaLike, known_like, asks_like, both_like, either_like, FormsLike, AlikeBelow}
use Rattle.at_model.proofs.of_formulas.EndsAlike.{EndLike, made, spoils, found_like, found_back, ends_there, ends_back, reached_there, reached_back, seen_there, seen_back}
use Rattle.at_model.proofs.of_formulas.Matching.{Matches, knows, wants, joins, chooses, EndMatches, makes, spoils as spoils_there, OutcomeMatches, finds, faults, flip, AreMatched, turned, settled_on, formed_on, atoms_match, match_of}

truth_on : {N M : Type 0} {R : N → M → Type 0} {v : Value N} (b : Bool) (w : Value M) → v ≡ Truth b →
    ValueLike R v w → w ≡ Truth b
truth_on b _ e (truth c) = let q : c ≡ b = cc in ap Truth q
truth_on b _ e _ = absurd cc

truth_back : {N M : Type 0} {R : N → M → Type 0} {w : Value M} (b : Bool) (v : Value N) → w ≡ Truth b →
    ValueLike R v w → v ≡ Truth b
truth_back b _ e (truth c) = let q : c ≡ b = cc in ap Truth q
truth_back b _ e _ = absurd cc

like_of : {N M : Type 0} {R : N → M → Type 0} {o : Outcome N} {p : Outcome M} →
    OutcomeMatches (InstanceLike R) (ValueLike R) o p → OutcomeLike R o p
like_of (finds v) = find v
like_of (faults k t) = fault k t

like_back_of : {N M : Type 0} {R : N → M → Type 0} {o : Outcome N} {p : Outcome M} →
    OutcomeMatches (flip (InstanceLike R)) (flip (ValueLike R)) p o → OutcomeLike R o p
like_back_of (finds v) = find v
like_back_of (faults k t) = fault k t

module _ {N M : Type 0} {R : N → M → Type 0} (agree : Agrees R) (look : Contents N) (also : Contents M)
    (forms : Forms N) (other : Forms M) (like : FormsLike R forms other) where
  -- the instances are alike, and so are the trees at all that supports the first one
  abbrev pub IsCarried : Instance N → Instance M → Type 0
  IsCarried j k = InstanceLike R j k × AlikeBelow R look also forms j

  -- to what an instance comes that is carried, that is carried
  pub carried_next : (i j : Instance N) (k : Instance M) → AlikeBelow R look also forms i → Comes look forms i j →
      InstanceLike R j k → IsCarried j k
  carried_next i j k a c t = (t, λ l (b, w, z). a l (b, goes i j b c w, z))

  matched : (f : Formula N) (g : Formula M) →
      ((j : Instance N) (k : Instance M) → Among j (atoms f) → InstanceLike R j k → IsCarried j k) →
      FormulaLike R f g → Matches IsCarried (ValueLike R) f g
  matched _ _ c (known_like v) = knows v
  matched _ _ c (asks_like {i = i} {j = j} t) = wants (c i j (inl refl) t)
  matched _ _ c (both_like {f = f} {g = g} {h = h} {k = k} s t) =
      joins (matched f h (λ a b n. c a b (front_among a (atoms f) (atoms g) n)) s)
      (matched g k (λ a b n. c a b (back_among a (atoms f) (atoms g) n)) t)
  matched _ _ c (either_like {f = f} {g = g} {h = h} {k = k} s t) =
      chooses (matched f h (λ a b n. c a b (front_among a (atoms f) (atoms g) n)) s)
      (matched g k (λ a b n. c a b (back_among a (atoms f) (atoms g) n)) t)

  -- outcomes at a depth are like those there
  abbrev OnAt : ℕ → Type 0
  OnAt n = (j : Instance N) (k : Instance M) (o : Outcome N) → IsCarried j k → HoldsAt look forms n j o →
      (p : Outcome M) × HoldsAt also other n k p × OutcomeLike R o p

  abbrev BackAt : ℕ → Type 0
  BackAt n = (j : Instance N) (k : Instance M) (p : Outcome M) → IsCarried j k → HoldsAt also other n k p →
      (o : Outcome N) × HoldsAt look forms n j o × OutcomeLike R o p

  has_at : (n : ℕ) (j : Instance N) (v : Value N) → HoldsAt look forms n j (Finds v) → HasValue look forms j v
  has_at n j v h = (n, h)

  end_matched : (n : ℕ) (j : Instance N) (d : End N (Formula N)) (e : End M (Formula M)) →
      AlikeBelow R look also forms j → EndsAt look forms n j d → EndLike R (FormulaLike R) d e →
      EndMatches IsCarried (InstanceLike R) (ValueLike R) d e
  end_matched n j _ _ a x (made {a = f} {b = g} s) =
      makes (matched f g (λ i k h t. carried_next j i k a (inr (f, (n, x), h)) t) s)
  end_matched n j _ _ a x (spoils k t) = spoils_there k t

  end_on : (n : ℕ) → OnAt n → (j : Instance N) (k : Instance M) (d : End N (Formula N)) → IsCarried j k →
      EndsAt look forms n j d →
      (e : End M (Formula M)) × EndsAt also other n k e × EndMatches IsCarried (InstanceLike R) (ValueLike R) d e
  end_on n on j k d (t, a) x =
      let (e, y, l) = ends_there R (FormulaLike R) look also (HasValue look forms) (HoldsAt look forms n)
      (HoldsAt also other n) (has_at n) j k t (like.formulas j k t)
      (λ l h. a l (j, stays j, h)) (λ i h o r u. on i h o (carried_next j i h a (inl r) u)) d x in
      (e, y, end_matched n j d e a x l)

  end_back : (n : ℕ) → BackAt n → (j : Instance N) (k : Instance M) (e : End M (Formula M)) → IsCarried j k →
      EndsAt also other n k e →
      (d : End N (Formula N)) × EndsAt look forms n j d × EndMatches IsCarried (InstanceLike R) (ValueLike R) d e
  end_back n back j k e (t, a) x =
      let (d, y, l) = ends_back R (FormulaLike R) look also (HasValue look forms) (HoldsAt look forms n)
      (HoldsAt also other n) (has_at n) j k t (like.formulas j k t)
      (λ l h. a l (j, stays j, h)) (λ i h o r u. back i h o (carried_next j i h a (inl r) u)) e x in
      (d, y, end_matched n j d e a y l)

  matched_at : (n : ℕ) → OnAt n → BackAt n → AreMatched IsCarried (InstanceLike R) (ValueLike R) (EndsAt look forms n)
      (EndsAt also other n)
  matched_at n on back = record {
    there = λ j k d s x. end_on n on j k d s x;
    back = λ j k e s x. end_back n back j k e s x;
    same = λ j k s. s.0;
    apart = instance-agrees agree;
    truth = λ b. truth b;
    is_truth = λ b w s. truth_on b w refl s;
    was_truth = λ b v s. truth_back b v refl s;
  }

  -- the same attributes are circular
  same_start : (j : Instance N) (k : Instance M) → InstanceLike R j k →
      forms.starts j.attribute ≡ other.starts k.attribute
  same_start j k t = like.starts j.attribute ∙ ap other.starts t.attribute

  on_next : (n : ℕ) → AreMatched IsCarried (InstanceLike R) (ValueLike R) (EndsAt look forms n)
      (EndsAt also other n) → OnAt (suc n)
  on_next n m j k o s h =
      let (p, y, l) = settled_on IsCarried (InstanceLike R) (ValueLike R) (EndsAt look forms n)
      (EndsAt also other n) m j k (forms.starts j.attribute) o s h in
      (p, subst (λ z. HoldsOver (EndsAt also other n) z k p) (same_start j k s.0) y, like_of l)

  back_next : (n : ℕ) → AreMatched IsCarried (InstanceLike R) (ValueLike R) (EndsAt look forms n)
      (EndsAt also other n) → BackAt (suc n)
  back_next n m j k p s h =
      let (o, y, l) = settled_on (flip IsCarried) (flip (InstanceLike R)) (flip (ValueLike R)) (EndsAt also other n)
      (EndsAt look forms n)
      (turned IsCarried (InstanceLike R) (ValueLike R) (EndsAt look forms n) (EndsAt also other n) m) k j
      (other.starts k.attribute) p s h in
      (o, subst (λ z. HoldsOver (EndsAt look forms n) z j o) (sym (same_start j k s.0)) y, like_back_of l)

  both_ways : (n : ℕ) → OnAt n × BackAt n
  both_ways zero = (λ j k o s h. absurd h, λ j k p s h. absurd h)
  both_ways (suc n) = let (on, back) = both_ways n in let m = matched_at n on back in (on_next n m, back_next n m)

  -- equations match at each depth
  pub all_matched : (n : ℕ) → AreMatched IsCarried (InstanceLike R) (ValueLike R) (EndsAt look forms n)
      (EndsAt also other n)
  all_matched n = let (on, back) = both_ways n in matched_at n on back

  pub outcome_there : (i : Instance N) (k : Instance M) (o : Outcome N) → IsCarried i k → Holds look forms i o →
      (p : Outcome M) × Holds also other k p × OutcomeLike R o p
  outcome_there i k o s (n, h) = let (on, back) = both_ways n in let (p, y, l) = on i k o s h in (p, (n, y), l)

  pub outcome_back : (i : Instance N) (k : Instance M) (p : Outcome M) → IsCarried i k → Holds also other k p →
      (o : Outcome N) × Holds look forms i o × OutcomeLike R o p
  outcome_back i k p s (n, h) = let (on, back) = both_ways n in let (o, y, l) = back i k p s h in (o, (n, y), l)

  value_there : (i : Instance N) (k : Instance M) (v : Value N) → IsCarried i k → HasValue look forms i v →
      (w : Value M) × HasValue also other k w × ValueLike R v w
  value_there i k v s h = let (p, y, l) = outcome_there i k (Finds v) s h in let (w, q, u) = found_like v l refl in
      (w, subst (Holds also other k) q y, u)

  value_back : (i : Instance N) (k : Instance M) (w : Value M) → IsCarried i k → HasValue also other k w →
      (v : Value N) × HasValue look forms i v × ValueLike R v w
  value_back i k w s h = let (o, y, l) = outcome_back i k (Finds w) s h in let (v, q, u) = found_back w l refl in
      (v, subst (Holds look forms i) q y, u)

  -- an equation ends alike
  pub ends_so_there : (i : Instance N) (k : Instance M) (d : End N (Formula N)) → IsCarried i k →
      EndsSo look forms i d → (e : End M (Formula M)) × EndsSo also other k e × EndMatches IsCarried (InstanceLike R)
      (ValueLike R) d e
  ends_so_there i k d s (n, x) = let m = all_matched n in let (e, y, l) = m.there i k d s x in (e, (n, y), l)

  pub form_there : (i : Instance N) (k : Instance M) (f : Formula N) → IsCarried i k → HasForm look forms i f →
      (g : Formula M) × HasForm also other k g × Matches IsCarried (ValueLike R) f g
  form_there i k f s (n, x) = let (g, y, l) =
      formed_on IsCarried (InstanceLike R) (ValueLike R) (EndsAt look forms n) (EndsAt also other n)
      (all_matched n) i k f s x in (g, (n, y), l)

  form_back : (i : Instance N) (k : Instance M) (g : Formula M) → IsCarried i k → HasForm also other k g →
      (f : Formula N) × HasForm look forms i f × Matches (flip IsCarried) (flip (ValueLike R)) g f
  form_back i k g s (n, x) =
      let (f, y, l) = formed_on (flip IsCarried) (flip (InstanceLike R)) (flip (ValueLike R)) (EndsAt also other n)
      (EndsAt look forms n)
      (turned IsCarried (InstanceLike R) (ValueLike R) (EndsAt look forms n) (EndsAt also other n)
      (all_matched n)) k i g s x in
      (f, (n, y), l)

  -- an evaluation reaches like instances
  pub reaches_there : (i j : Instance N) (k : Instance M) → IsCarried i k →
      Reaches look (HasValue look forms) (forms.formula i) j →
      (h : Instance M) × IsCarried j h × Reaches also (HasValue also other) (other.formula k) h
  reaches_there i j k (t, a) x =
      let (h, u, y) = reached_there R (FormulaLike R) look also (HasValue look forms) (HasValue also other)
      (like.formulas i k t)
      (λ l h. a l (i, stays i, h)) (λ b d v r u. value_there b d v (carried_next i b d a (inl r) u)) j x in
      (h, carried_next i j h a (inl x) u, y)

  reaches_back : (i : Instance N) (k h : Instance M) → IsCarried i k →
      Reaches also (HasValue also other) (other.formula k) h →
      (j : Instance N) × IsCarried j h × Reaches look (HasValue look forms) (forms.formula i) j
  reaches_back i k h (t, a) x =
      let (j, u, y) = reached_back R (FormulaLike R) look also (HasValue look forms) (HasValue also other)
      (like.formulas i k t)
      (λ l h. a l (i, stays i, h)) (λ b d v r u. value_back b d v (carried_next i b d a (inl r) u)) h x in
      (j, carried_next i j h a (inl y) u, y)

  -- an instance comes to like instances
  comes_there : (i j : Instance N) (k : Instance M) → IsCarried i k → Comes look forms i j →
      (h : Instance M) × IsCarried j h × Comes also other k h
  comes_there i j k s (inl x) = let (h, u, y) = reaches_there i j k s x in (h, u, inl y)
  comes_there i j k s (inr (f, x, m)) =
      let (g, y, l) = form_there i k f s x in
      let (h, n, u) = match_of (atoms_match l) j m in
      (h, u, inr (g, y, n))

  comes_back : (i : Instance N) (k h : Instance M) → IsCarried i k → Comes also other k h →
      (j : Instance N) × IsCarried j h × Comes look forms i j
  comes_back i k h s (inl x) = let (j, u, y) = reaches_back i k h s x in (j, u, inl y)
  comes_back i k h s (inr (g, x, m)) =
      let (f, y, l) = form_back i k g s x in
      let (j, n, u) = match_of (atoms_match l) h m in
      (j, u, inr (f, y, n))

  -- it leads to like instances, and to no others
  pub leads_there : (i j : Instance N) (k : Instance M) → IsCarried i k → Leads look forms i j →
      (h : Instance M) × IsCarried j h × Leads also other k h
  leads_there _ j k s (stays i) = (k, s, stays k)
  leads_there _ j k s (goes i m _ c l) =
      let (n, u, d) = comes_there i m k s c in
      let (h, v, p) = leads_there m j n u l in
      (h, v, goes k n h d p)

  pub leads_back : (i : Instance N) (k h : Instance M) → IsCarried i k → Leads also other k h →
      (j : Instance N) × IsCarried j h × Leads look forms i j
  leads_back i _ h s (stays k) = (i, s, stays i)
  leads_back i _ h s (goes k n _ c l) =
      let (m, u, d) = comes_back i k n s c in
      let (j, v, p) = leads_back m n h u l in
      (j, v, goes i m j d p)

  -- it rests on like locations, and on no others
  pub supports_there : (i : Instance N) (k : Instance M) (l : Location N) → IsCarried i k → Supports look forms l i →
      (m : Location M) × LocationLike R l m × Supports also other m k
  supports_there i k l s (j, p, x) =
      let (h, (t, a), q) = leads_there i j k s p in
      let (m, u, y) = seen_there R (FormulaLike R) look also (HasValue look forms) (HasValue also other)
      (like.formulas j h t)
      (λ n z. a n (j, stays j, z)) (λ b d v r u. value_there b d v (carried_next j b d a (inl r) u)) l x in
      (m, u, (h, q, y))

  pub supports_back : (i : Instance N) (k : Instance M) (m : Location M) → IsCarried i k → Supports also other m k →
      (l : Location N) × LocationLike R l m × Supports look forms l i
  supports_back i k m s (h, p, x) =
      let (j, (t, a), q) = leads_back i k h s p in
      let (l, u, y) = seen_back R (FormulaLike R) look also (HasValue look forms) (HasValue also other)
      (like.formulas j h t)
      (λ n z. a n (j, stays j, z)) (λ b d v r u. value_back b d v (carried_next j b d a (inl r) u)) m x in
      (l, u, (j, q, y))

-- Where two trees are alike everywhere, like instances have like outcomes in both, lead to like instances in both, and rest on
-- like locations.
use Rattle.std.proofs.Common.{◌≡◌, ℕ, zero, suc, List, [], ◌∷◌, Option, Some, inl, inr, refl, subst}
use Rattle.at_model.specs.Run.{Value, Instance, Location, Contents, Run, Tried}
use Rattle.at_model.specs.Meaning.{Outcome, Finds, value_in, Equations, settled, outcome_at, HasValue, Reaches, Walks, Leads}
use Rattle.at_model.specs.Support.{Sees, Supports}
use Rattle.at_model.specs.Alike.{OptionLike, neither, both, ValueLike, InstanceLike, LocationLike, RunLike, gives, fails, looks, demands, OutcomeLike, find, fault, EquationsLike, AlikeAt, TriedLike, valued, faulted, needs}
use Rattle.at_model.proofs.of_likeness.TriesAlike.{tried-like}

like_value : {N M : Type 0} {R : N → M → Type 0} {o : Option (Outcome N)} {p : Option (Outcome M)} → OptionLike (OutcomeLike R) o p → OptionLike (ValueLike R) (value_in o) (value_in p)
like_value neither = neither
like_value (both (find v)) = both v
like_value (both (fault f t)) = neither

like_back : {N M : Type 0} {R : N → M → Type 0} {o : Option (Outcome N)} {p : Option (Outcome M)} (w : Value M)
    → OptionLike (OutcomeLike R) o p → p ≡ Some (Finds w) → (v : Value N) × (o ≡ Some (Finds v)) × ValueLike R v w
like_back w neither e = absurd cc
like_back {R = R} w (both (find {v = v} {w = u} s)) e = let same : u ≡ w = cc in (v, refl, subst (λ x. ValueLike R v x) same s)
like_back w (both (fault f t)) e = absurd cc

like_on : {N M : Type 0} {R : N → M → Type 0} {o : Option (Outcome N)} {p : Option (Outcome M)} (v : Value N)
    → OptionLike (OutcomeLike R) o p → o ≡ Some (Finds v) → (w : Value M) × (p ≡ Some (Finds w)) × ValueLike R v w
like_on v neither e = absurd cc
like_on {R = R} v (both (find {v = u} {w = w} s)) e = let same : u ≡ v = cc in (w, refl, subst (λ x. ValueLike R x w) same s)
like_on v (both (fault f t)) e = absurd cc

like_settled : {N M : Type 0} {R : N → M → Type 0} (f : Instance N → Option (Outcome N))
    (g : Instance M → Option (Outcome M)) (i : Instance N) (j : Instance M) → InstanceLike R i j
    → ((a : Instance N) (b : Instance M) → InstanceLike R a b → OptionLike (OutcomeLike R) (f a) (g b)) →
    {r : Tried N (Value N)} {s : Tried M (Value M)} → TriedLike R (ValueLike R) r s → OptionLike (OutcomeLike R) (settled f i r) (settled g j s)
like_settled f g i j t below (valued v) = both (find v)
like_settled f g i j t below (faulted x) = both (fault x t)
like_settled f g i j t below (needs u) = below _ _ u

module _ {N M : Type 0} {R : N → M → Type 0} (look : Contents N) (also : Contents M) (equation : Equations N)
    (other : Equations M) (like : EquationsLike R equation other) (all : (l : Location N) → AlikeAt R look also l) where
  pub outcomes_like : (n : ℕ) (i : Instance N) (j : Instance M) → InstanceLike R i j → OptionLike (OutcomeLike R) (outcome_at look equation n i) (outcome_at also other n j)
  outcomes_like zero i j t = neither
  outcomes_like (suc n) i j t =
      like_settled (outcome_at look equation n) (outcome_at also other n) i j t (outcomes_like n)
      (tried-like look also (λ a. value_in (outcome_at look equation n a)) (λ b. value_in (outcome_at also other n b)) all (λ a b u. like_value (outcomes_like n a b u)) (like i j t))

  pub value_on : (i : Instance N) (j : Instance M) (v : Value N) → InstanceLike R i j → HasValue look equation i v → (w : Value M) × HasValue also other j w × ValueLike R v w
  value_on i j v t (n, e) = let (w, is, s) = like_on v (outcomes_like n i j t) e in (w, (n, is), s)

  pub value_back : (i : Instance N) (j : Instance M) (w : Value M) → InstanceLike R i j → HasValue also other j w → (v : Value N) × HasValue look equation i v × ValueLike R v w
  value_back i j w t (n, e) = let (v, is, s) = like_back w (outcomes_like n i j t) e in (v, (n, is), s)

  reached_on : {r : Run N (Value N)} {s : Run M (Value M)} → RunLike R (ValueLike R) r s → (k : Instance N) → Reaches
      look (HasValue look equation) r k → (h : Instance M) × InstanceLike R k h × Reaches also (HasValue also other) s h
  reached_on (gives e) k c = absurd c
  reached_on (fails f) k c = absurd c
  reached_on (looks {l = l} {m = m} e step) k c = reached_on (step (look l) (also m) (all l m e)) k c
  reached_on (demands {i = i} {j = j} t step) k (inl same) = (j, subst (λ x. InstanceLike R x j) same t, inl refl)
  reached_on (demands {i = i} {j = j} t step) k (inr (v, has, c)) =
      let (w, also_has, s) = value_on i j v t has in
      let (h, u, d) = reached_on (step v w s) k c in
      (h, u, inr (w, also_has, d))

  reached_back : {r : Run N (Value N)} {s : Run M (Value M)} → RunLike R (ValueLike R) r s → (h : Instance M) → Reaches
      also (HasValue also other) s h → (k : Instance N) × InstanceLike R k h × Reaches look (HasValue look equation) r k
  reached_back (gives e) h c = absurd c
  reached_back (fails f) h c = absurd c
  reached_back (looks {l = l} {m = m} e step) h c = reached_back (step (look l) (also m) (all l m e)) h c
  reached_back (demands {i = i} {j = j} t step) h (inl same) = (i, subst (λ x. InstanceLike R i x) same t, inl refl)
  reached_back (demands {i = i} {j = j} t step) h (inr (w, has, c)) =
      let (v, also_has, s) = value_back i j w t has in
      let (k, u, d) = reached_back (step v w s) h c in
      (k, u, inr (v, also_has, d))

  walks_on : (i : Instance N) (j : Instance M) (is : List (Instance N)) (k : Instance N) → InstanceLike R i j → Walks
      look equation i is k → (h : Instance M) × (js : List (Instance M)) × InstanceLike R k h × Walks also other j js h
  walks_on i j [] k t c = let (h, u, d) = reached_on (like i j t) k c in (h, [], u, d)
  walks_on i j (m ∷ ms) k t (c, more) =
      let (n, u, d) = reached_on (like i j t) m c in
      let (h, ns, s, rest) = walks_on m n ms k u more in
      (h, n ∷ ns, s, (d, rest))

  walks_back : (i : Instance N) (j : Instance M) (js : List (Instance M)) (h : Instance M) → InstanceLike R i j → Walks
      also other j js h → (k : Instance N) × (is : List (Instance N)) × InstanceLike R k h × Walks look equation i is k
  walks_back i j [] h t c = let (k, u, d) = reached_back (like i j t) h c in (k, [], u, d)
  walks_back i j (n ∷ ns) h t (c, more) =
      let (m, u, d) = reached_back (like i j t) n c in
      let (k, ms, s, rest) = walks_back m n ns h u more in
      (k, m ∷ ms, s, (d, rest))

  pub leads_on : (i : Instance N) (j : Instance M) (k : Instance N) → InstanceLike R i j → Leads look equation i k → (h : Instance M) × InstanceLike R k h × Leads also other j h
  leads_on i j k t (inl same) = (j, subst (λ x. InstanceLike R x j) same t, inl refl)
  leads_on i j k t (inr (is, walks)) = let (h, js, u, d) = walks_on i j is k t walks in (h, u, inr (js, d))

  pub leads_back : (i : Instance N) (j h : Instance M) → InstanceLike R i j → Leads also other j h → (k : Instance N) × InstanceLike R k h × Leads look equation i k
  leads_back i j h t (inl same) = (i, subst (λ x. InstanceLike R i x) same t, inl refl)
  leads_back i j h t (inr (js, walks)) = let (k, is, u, d) = walks_back i j js h t walks in (k, u, inr (is, d))

  seen_on : {r : Run N (Value N)} {s : Run M (Value M)} → RunLike R (ValueLike R) r s → (l : Location N) → Sees look
      (HasValue look equation) r l → (m : Location M) × LocationLike R l m × Sees also (HasValue also other) s m
  seen_on (gives e) l c = absurd c
  seen_on (fails f) l c = absurd c
  seen_on (looks {l = k} {m = m} e step) l (inl same) = (m, subst (λ x. LocationLike R x m) same e, inl refl)
  seen_on (looks {l = k} {m = m} e step) l (inr c) = let (h, u, d) = seen_on (step (look k) (also m) (all k m e)) l c in (h, u, inr d)
  seen_on (demands {i = i} {j = j} t step) l (v, has, c) =
      let (w, also_has, s) = value_on i j v t has in
      let (h, u, d) = seen_on (step v w s) l c in
      (h, u, (w, also_has, d))

  seen_back : {r : Run N (Value N)} {s : Run M (Value M)} → RunLike R (ValueLike R) r s → (m : Location M) → Sees also
      (HasValue also other) s m → (l : Location N) × LocationLike R l m × Sees look (HasValue look equation) r l
  seen_back (gives e) m c = absurd c
  seen_back (fails f) m c = absurd c
  seen_back (looks {l = l} {m = k} e step) m (inl same) = (l, subst (λ x. LocationLike R l x) same e, inl refl)
  seen_back (looks {l = l} {m = k} e step) m (inr c) = let (h, u, d) = seen_back (step (look l) (also k) (all l k e)) m c in (h, u, inr d)
  seen_back (demands {i = i} {j = j} t step) m (w, has, c) =
      let (v, also_has, s) = value_back i j w t has in
      let (h, u, d) = seen_back (step v w s) m c in
      (h, u, (v, also_has, d))

  pub supports_on : (i : Instance N) (j : Instance M) (l : Location N) → InstanceLike R i j → Supports look equation l i → (m : Location M) × LocationLike R l m × Supports also other m j
  supports_on i j l t (k, leads, sees) =
      let (h, u, led) = leads_on i j k t leads in
      let (m, s, seen) = seen_on (like k h u) l sees in
      (m, s, (h, led, seen))

  pub supports_back : (i : Instance N) (j : Instance M) (m : Location M) → InstanceLike R i j → Supports also other m j → (l : Location N) × LocationLike R l m × Supports look equation l i
  supports_back i j m t (h, leads, sees) =
      let (k, u, led) = leads_back i j h t leads in
      let (l, s, seen) = seen_back (like k h u) m sees in
      (l, s, (k, led, seen))

-- Evaluations that go alike end alike over two trees, reach like instances and look at like locations.
use Rattle.std.proofs.Common.{◌≡◌, inl, inr, refl, subst, ap}
use Rattle.at_model.specs.Run.{Value, Location, FaultKind, Run, Contents, Instance}
use Rattle.at_model.specs.Meaning.{Outcome, Finds, Faults, Reaches}
use Rattle.at_model.specs.Support.{Sees}
use Rattle.at_model.specs.Alike.{ValueLike, InstanceLike, LocationLike, RunLike, gives, fails, looks, demands, OutcomeLike, find, fault, AlikeAt}
use Rattle.at_model.specs.of_fixpoints.Fixpoints.{End, Made, Spoilt, Ends}

-- like ends
pub data EndLike {N M A B : Type 0} (R : N → M → Type 0) (Q : A → B → Type 0) : End N A → End M B → Type 0 where
  made : {a : A} {b : B} → Q a b → EndLike R Q (Made a) (Made b)
  spoils : (k : FaultKind) {a : Instance N} {b : Instance M} → InstanceLike R a b →
      EndLike R Q (Spoilt k a) (Spoilt k b)

pub found_like : {N M : Type 0} {R : N → M → Type 0} {o : Outcome N} {p : Outcome M} (v : Value N) →
    OutcomeLike R o p → o ≡ Finds v → (w : Value M) × (p ≡ Finds w) × ValueLike R v w
found_like {R = R} v (find {v = u} {w = w} s) e = let q : u ≡ v = cc in (w, refl, subst (λ z. ValueLike R z w) q s)
found_like v (fault f s) e = absurd cc

pub fault_like : {N M : Type 0} {R : N → M → Type 0} {o : Outcome N} {p : Outcome M} (f : FaultKind)
    (a : Instance N) → OutcomeLike R o p → o ≡ Faults f a → (b : Instance M) × (p ≡ Faults f b) × InstanceLike R a b
fault_like f a (find s) e = absurd cc
fault_like {R = R} f a (fault g {i = c} {j = b} s) e = let q : c ≡ a = cc in let r : g ≡ f = cc in
    (b, ap (λ z. Faults z b) r, subst (λ z. InstanceLike R z b) q s)

pub found_back : {N M : Type 0} {R : N → M → Type 0} {o : Outcome N} {p : Outcome M} (w : Value M) →
    OutcomeLike R o p → p ≡ Finds w → (v : Value N) × (o ≡ Finds v) × ValueLike R v w
found_back {R = R} w (find {v = v} {w = u} s) e = let q : u ≡ w = cc in (v, refl, subst (λ z. ValueLike R v z) q s)
found_back w (fault f s) e = absurd cc

pub fault_back : {N M : Type 0} {R : N → M → Type 0} {o : Outcome N} {p : Outcome M} (f : FaultKind)
    (b : Instance M) → OutcomeLike R o p → p ≡ Faults f b → (a : Instance N) × (o ≡ Faults f a) × InstanceLike R a b
fault_back f b (find s) e = absurd cc
fault_back {R = R} f b (fault g {i = a} {j = c} s) e = let q : c ≡ b = cc in let r : g ≡ f = cc in
    (a, ap (λ z. Faults z a) r, subst (λ z. InstanceLike R a z) q s)

-- what is reached here has an outcome like that of the like instance there
abbrev pub AreCarried : {N M A : Type 0} → (N → M → Type 0) → Contents N → (Instance N → Value N → Type 0) →
    (Instance N → Outcome N → Type 0) → (Instance M → Outcome M → Type 0) → Run N A → Type 0
AreCarried {N} {M} R look Has H G r =
    (j : Instance N) (k : Instance M) (o : Outcome N) → Reaches look Has r j → InstanceLike R j k → H j o →
    (p : Outcome M) × G k p × OutcomeLike R o p

-- and the other way round
abbrev pub AreCarriedBack : {N M A : Type 0} → (N → M → Type 0) → Contents N → (Instance N → Value N → Type 0) →
    (Instance N → Outcome N → Type 0) → (Instance M → Outcome M → Type 0) → Run N A → Type 0
AreCarriedBack {N} {M} R look Has H G r =
    (j : Instance N) (k : Instance M) (p : Outcome M) → Reaches look Has r j → InstanceLike R j k → G k p →
    (o : Outcome N) × H j o × OutcomeLike R o p

-- the trees are alike where it looks
abbrev pub AlikeWhereSeen : {N M A : Type 0} → (N → M → Type 0) → Contents N → Contents M →
    (Instance N → Value N → Type 0) → Run N A → Type 0
AlikeWhereSeen {N} R look also Has r = (l : Location N) → Sees look Has r l → AlikeAt R look also l

module _ {N M A B : Type 0} (R : N → M → Type 0) (Q : A → B → Type 0) (look : Contents N) (also : Contents M)
    (Has : Instance N → Value N → Type 0) (H : Instance N → Outcome N → Type 0) (G : Instance M → Outcome M → Type 0)
    (has : (j : Instance N) (v : Value N) → H j (Finds v) → Has j v) where
  pub ends_there : (i : Instance N) (k : Instance M) → InstanceLike R i k → {r : Run N A} {s : Run M B} →
      RunLike R Q r s → AlikeWhereSeen R look also Has r → AreCarried R look Has H G r → (d : End N A) →
      Ends look H i r d → (e : End M B) × Ends also G k s e × EndLike R Q d e
  ends_there i k t (gives {b = b} u) a c d x = (Made b, refl, subst (λ z. EndLike R Q z (Made b)) x (made u))
  ends_there i k t (fails f) a c d x = (Spoilt f k, refl, subst (λ z. EndLike R Q z (Spoilt f k)) x (spoils f t))
  ends_there i k t (looks {l = l} {m = m} u step) a c d x =
      ends_there i k t (step (look l) (also m) (a l (inl refl) m u)) (λ n h. a n (inr h)) c d x
  ends_there i k t (demands {i = j} {j = h} u step) a c d (inl (v, y, x)) =
      let (p, g, s) = c j h (Finds v) (inl refl) u y in
      let (w, q, z) = found_like v s refl in
      let (e, f, l) = ends_there i k t (step v w z) (λ n m. a n (v, has j v y, m))
      (λ b b' o m. c b b' o (inr (v, has j v y, m))) d x in
      (e, inl (w, subst (G h) q g, f), l)
  ends_there i k t (demands {i = j} {j = h} u step) a c d (inr (f, at, y, x)) =
      let (p, g, s) = c j h (Faults f at) (inl refl) u y in
      let (b, q, z) = fault_like f at s refl in
      (Spoilt f b, inr (f, b, subst (G h) q g, refl), subst (λ z. EndLike R Q z (Spoilt f b)) x (spoils f z))

  pub ends_back : (i : Instance N) (k : Instance M) → InstanceLike R i k → {r : Run N A} {s : Run M B} →
      RunLike R Q r s → AlikeWhereSeen R look also Has r → AreCarriedBack R look Has H G r → (e : End M B) →
      Ends also G k s e → (d : End N A) × Ends look H i r d × EndLike R Q d e
  ends_back i k t (gives {a = a} u) w c e x = (Made a, refl, subst (λ z. EndLike R Q (Made a) z) x (made u))
  ends_back i k t (fails f) w c e x = (Spoilt f i, refl, subst (λ z. EndLike R Q (Spoilt f i) z) x (spoils f t))
  ends_back i k t (looks {l = l} {m = m} u step) a c e x =
      ends_back i k t (step (look l) (also m) (a l (inl refl) m u)) (λ n h. a n (inr h)) c e x
  ends_back i k t (demands {i = j} {j = h} u step) a c e (inl (w, y, x)) =
      let (p, g, s) = c j h (Finds w) (inl refl) u y in
      let (v, q, z) = found_back w s refl in
      let g' : H j (Finds v) = subst (H j) q g in
      let (d, f, l) = ends_back i k t (step v w z) (λ n m. a n (v, has j v g', m))
      (λ b b' o m. c b b' o (inr (v, has j v g', m))) e x in
      (d, inl (v, g', f), l)
  ends_back i k t (demands {i = j} {j = h} u step) a c e (inr (f, at, y, x)) =
      let (p, g, s) = c j h (Faults f at) (inl refl) u y in
      let (b, q, z) = fault_back f at s refl in
      (Spoilt f b, inr (f, b, subst (H j) q g, refl), subst (λ z. EndLike R Q (Spoilt f b) z) x (spoils f z))

-- values of what is reached here are those of like instances there
abbrev pub ValuesCarried : {N M A : Type 0} → (N → M → Type 0) → Contents N → (Instance N → Value N → Type 0) →
    (Instance M → Value M → Type 0) → Run N A → Type 0
ValuesCarried {N} {M} R look Has Had r =
    (j : Instance N) (k : Instance M) (v : Value N) → Reaches look Has r j → InstanceLike R j k → Has j v →
    (w : Value M) × Had k w × ValueLike R v w

-- and the other way round
abbrev pub ValuesCarriedBack : {N M A : Type 0} → (N → M → Type 0) → Contents N → (Instance N → Value N → Type 0) →
    (Instance M → Value M → Type 0) → Run N A → Type 0
ValuesCarriedBack {N} {M} R look Has Had r =
    (j : Instance N) (k : Instance M) (w : Value M) → Reaches look Has r j → InstanceLike R j k → Had k w →
    (v : Value N) × Has j v × ValueLike R v w

module _ {N M A B : Type 0} (R : N → M → Type 0) (Q : A → B → Type 0) (look : Contents N) (also : Contents M)
    (Has : Instance N → Value N → Type 0) (Had : Instance M → Value M → Type 0) where
  pub reached_there : {r : Run N A} {s : Run M B} → RunLike R Q r s → AlikeWhereSeen R look also Has r →
      ValuesCarried R look Has Had r → (k : Instance N) → Reaches look Has r k →
      (h : Instance M) × InstanceLike R k h × Reaches also Had s h
  reached_there (gives e) a c k x = absurd x
  reached_there (fails f) a c k x = absurd x
  reached_there (looks {l = l} {m = m} e step) a c k x =
      reached_there (step (look l) (also m) (a l (inl refl) m e)) (λ n u. a n (inr u)) c k x
  reached_there (demands {i = j} {j = h} e step) a c k (inl q) = (h, subst (λ z. InstanceLike R z h) q e, inl refl)
  reached_there (demands {i = j} {j = h} e step) a c k (inr (v, y, x)) =
      let (w, g, s) = c j h v (inl refl) e y in
      let (b, t, z) = reached_there (step v w s) (λ l u. a l (v, y, u)) (λ b d x u. c b d x (inr (v, y, u))) k x in
      (b, t, inr (w, g, z))

  pub reached_back : {r : Run N A} {s : Run M B} → RunLike R Q r s → AlikeWhereSeen R look also Has r →
      ValuesCarriedBack R look Has Had r → (h : Instance M) → Reaches also Had s h →
      (k : Instance N) × InstanceLike R k h × Reaches look Has r k
  reached_back (gives e) a c k x = absurd x
  reached_back (fails f) a c k x = absurd x
  reached_back (looks {l = l} {m = m} e step) a c k x =
      reached_back (step (look l) (also m) (a l (inl refl) m e)) (λ n u. a n (inr u)) c k x
  reached_back (demands {i = j} {j = h} e step) a c k (inl q) = (j, subst (λ z. InstanceLike R j z) q e, inl refl)
  reached_back (demands {i = j} {j = h} e step) a c k (inr (w, y, x)) =
      let (v, g, s) = c j h w (inl refl) e y in
      let (b, t, z) = reached_back (step v w s) (λ l u. a l (v, g, u)) (λ b d x u. c b d x (inr (v, g, u))) k x in
      (b, t, inr (v, g, z))

  pub seen_there : {r : Run N A} {s : Run M B} → RunLike R Q r s → AlikeWhereSeen R look also Has r →
      ValuesCarried R look Has Had r → (l : Location N) → Sees look Has r l →
      (m : Location M) × LocationLike R l m × Sees also Had s m
  seen_there (gives e) a c k x = absurd x
  seen_there (fails f) a c k x = absurd x
  seen_there (looks {l = l} {m = m} e step) a c k (inl q) = (m, subst (λ z. LocationLike R z m) q e, inl refl)
  seen_there (looks {l = l} {m = m} e step) a c k (inr x) = let (b, t, z) =
      seen_there (step (look l) (also m) (a l (inl refl) m e)) (λ n u. a n (inr u)) c k x in (b, t, inr z)
  seen_there (demands {i = j} {j = h} e step) a c k (v, y, x) =
      let (w, g, s) = c j h v (inl refl) e y in
      let (b, t, z) = seen_there (step v w s) (λ l u. a l (v, y, u)) (λ b d x u. c b d x (inr (v, y, u))) k x in
      (b, t, (w, g, z))

  pub seen_back : {r : Run N A} {s : Run M B} → RunLike R Q r s → AlikeWhereSeen R look also Has r →
      ValuesCarriedBack R look Has Had r → (m : Location M) → Sees also Had s m →
      (l : Location N) × LocationLike R l m × Sees look Has r l
  seen_back (gives e) a c k x = absurd x
  seen_back (fails f) a c k x = absurd x
  seen_back (looks {l = l} {m = m} e step) a c k (inl q) = (l, subst (λ z. LocationLike R l z) q e, inl refl)
  seen_back (looks {l = l} {m = m} e step) a c k (inr x) = let (b, t, z) =
      seen_back (step (look l) (also m) (a l (inl refl) m e)) (λ n u. a n (inr u)) c k x in (b, t, inr z)
  seen_back (demands {i = j} {j = h} e step) a c k (w, y, x) =
      let (v, g, s) = c j h w (inl refl) e y in
      let (b, t, z) = seen_back (step v w s) (λ l u. a l (v, g, u)) (λ b d x u. c b d x (inr (v, g, u))) k x in
      (b, t, (v, g, z))

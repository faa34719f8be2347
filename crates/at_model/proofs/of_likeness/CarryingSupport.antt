-- Where two trees are alike at all that supports an instance, it leads to like instances in both, and rests on like locations.
use Rattle.std.proofs.Common.{◌≡◌, ℕ, zero, suc, List, [], ◌∷◌, Option, Some, None, inl, inr, refl, subst}
use Rattle.at_model.specs.Run.{Value, Location, FaultKind, Run, Needs, Contents, tried, Instance}
use Rattle.at_model.specs.Meaning.{Outcome, Finds, Faults, value_in, Equations, settled, outcome_at, Holds, HasValue, Reaches, Comes, Walks, Leads}
use Rattle.at_model.specs.Support.{Sees, Supports}
use Rattle.at_model.specs.Alike.{ValueLike, InstanceLike, LocationLike, RunLike, gives, fails, looks, demands, OutcomeLike, find, EquationsLike, AlikeAt, AlikeBelow}
use Rattle.at_model.proofs.Outcomes.{Settles, once, lower, walked_lower}
use Rattle.at_model.proofs.of_likeness.Carrying.{first_led, carried}

pub alike_next : {N M : Type 0} {R : N → M → Type 0} (look : Contents N) (also : Contents M) (equation : Equations N)
    (i j : Instance N) → AlikeBelow R look also equation i → Comes look equation i j → AlikeBelow R look also equation j
alike_next look also equation i j a c l (b, v, w) = a l (b, first_led look equation i j b c v, w)

-- from an instance on the way from another one
walked_on : {N : Type 0} (look : Contents N) (equation : Equations N) (i : Instance N) (is : List (Instance N))
    (j k : Instance N) → Walks look equation i is j → Leads look equation j k → Leads look equation i k
walked_on look equation i [] j k c l = first_led look equation i j k c l
walked_on look equation i (m ∷ ms) j k (c, w) l = first_led look equation i m k c (walked_on look equation m ms j k w l)

pub alike_led : {N M : Type 0} {R : N → M → Type 0} (look : Contents N) (also : Contents M) (equation : Equations N)
    (i j : Instance N) → AlikeBelow R look also equation i → Leads look equation i j → AlikeBelow R look also equation j
alike_led {R = R} look also equation i j a (inl e) = subst (λ z. AlikeBelow R look also equation z) e a
alike_led look also equation i j a (inr (is, u)) = λ l (b, v, w). a l (b, walked_on look equation i is j b u v, w)

found : {N M : Type 0} {R : N → M → Type 0} {v : Value N} {q : Outcome M} → OutcomeLike R (Finds v) q → (w : Value M) × (q ≡ Finds w) × ValueLike R v w
found (find e) = (_, refl, e)

-- a value is carried
pub carried_value : {N M : Type 0} {R : N → M → Type 0} (look : Contents N) (also : Contents M) (equation : Equations N) (other : Equations M) → EquationsLike R equation other →
    (i : Instance N) (i' : Instance M) (v : Value N) → InstanceLike R i i' → AlikeBelow R look also equation i → HasValue look equation i v → (w : Value M) × HasValue also other i' w × ValueLike R v w
carried_value look also equation other like i i' v t a h =
    let (q, g, s) = carried look also equation other like i i' (Finds v) t a h in
    let (w, e, u) = found s in
    (w, subst (λ z. Holds also other i' z) e g, u)

-- what is reached is reached over the other tree
reached_there : {N M : Type 0} {R : N → M → Type 0} (look : Contents N) (also : Contents M) (equation : Equations N)
    (other : Equations M) {r : Run N (Value N)} {s : Run M (Value M)} → RunLike R (ValueLike R) r s →
    ((l : Location N) → Sees look (HasValue look equation) r l → AlikeAt R look also l) →
    ((j : Instance N) (j' : Instance M) (v : Value N) → Reaches look (HasValue look equation) r j → InstanceLike R j j'
    → HasValue look equation j v → (w : Value M) × HasValue also other j' w × ValueLike R v w) →
    (k : Instance N) → Reaches look (HasValue look equation) r k → (k' : Instance M) × InstanceLike R k k' × Reaches also (HasValue also other) s k'
reached_there look also equation other (gives e) a d k r = absurd r
reached_there look also equation other (fails f) a d k r = absurd r
reached_there look also equation other (looks {l = l} {m = m} e step) a d k r = reached_there look also equation other (step (look l) (also m) (a l (inl refl) m e)) (λ x u. a x (inr u)) d k r
reached_there {R = R} look also equation other (demands {i = j} {j = j'} e step) a d k (inl q) = (j', subst (λ z. InstanceLike R z j') q e, inl refl)
reached_there look also equation other (demands {i = j} {j = j'} e step) a d k (inr (v, h, r)) =
    let (w, h', s) = d j j' v (inl refl) e h in
    let (k', t, r') = reached_there look also equation other (step v w s) (λ l u. a l (v, h, u)) (λ b b' x u. d b b' x (inr (v, h, u))) k r in
    (k', t, inr (w, h', r'))

-- what is seen is seen over the other tree
seen_there : {N M : Type 0} {R : N → M → Type 0} (look : Contents N) (also : Contents M) (equation : Equations N)
    (other : Equations M) {r : Run N (Value N)} {s : Run M (Value M)} → RunLike R (ValueLike R) r s →
    ((l : Location N) → Sees look (HasValue look equation) r l → AlikeAt R look also l) →
    ((j : Instance N) (j' : Instance M) (v : Value N) → Reaches look (HasValue look equation) r j → InstanceLike R j j'
    → HasValue look equation j v → (w : Value M) × HasValue also other j' w × ValueLike R v w) →
    (l : Location N) → Sees look (HasValue look equation) r l → (m : Location M) × LocationLike R l m × Sees also (HasValue also other) s m
seen_there look also equation other (gives e) a d k r = absurd r
seen_there look also equation other (fails f) a d k r = absurd r
seen_there {R = R} look also equation other (looks {l = l} {m = m} e step) a d k (inl q) = (m, subst (λ z. LocationLike R z m) q e, inl refl)
seen_there look also equation other (looks {l = l} {m = m} e step) a d k (inr r) =
    let (k', t, r') = seen_there look also equation other (step (look l) (also m) (a l (inl refl) m e)) (λ x u. a x (inr u)) d k r in (k', t, inr r')
seen_there look also equation other (demands {i = j} {j = j'} e step) a d k (v, h, r) =
    let (w, h', s) = d j j' v (inl refl) e h in
    let (k', t, r') = seen_there look also equation other (step v w s) (λ l u. a l (v, h, u)) (λ b b' x u. d b b' x (inr (v, h, u))) k r in
    (k', t, (w, h', r'))

pub comes_there : {N M : Type 0} {R : N → M → Type 0} (look : Contents N) (also : Contents M) (equation : Equations N) (other : Equations M) → EquationsLike R equation other →
    (i : Instance N) (i' : Instance M) (k : Instance N) → InstanceLike R i i' → AlikeBelow R look also equation i
    → Comes look equation i k → (k' : Instance M) × InstanceLike R k k' × Comes also other i' k'
comes_there look also equation other like i i' k t a c =
    reached_there look also equation other (like i i' t) (λ l u. a l (i, inl refl, u)) (λ j j' v u s h.
    carried_value look also equation other like j j' v s (alike_next look also equation i j a u) h) k c

pub walks_there : {N M : Type 0} {R : N → M → Type 0} (look : Contents N) (also : Contents M) (equation : Equations N) (other : Equations M) → EquationsLike R equation other →
    (i : Instance N) (i' : Instance M) (is : List (Instance N)) (k : Instance N) → InstanceLike R i i' → AlikeBelow R look also equation i → Walks look equation i is k →
    (k' : Instance M) × (is' : List (Instance M)) × InstanceLike R k k' × Walks also other i' is' k'
walks_there look also equation other like i i' [] k t a c = let (k', s, c') = comes_there look also equation other like i i' k t a c in (k', [], s, c')
walks_there look also equation other like i i' (m ∷ ms) k t a (c, w) =
    let (m', s, c') = comes_there look also equation other like i i' m t a c in
    let (k', ms', u, w') = walks_there look also equation other like m m' ms k s (alike_next look also equation i m a c) w in
    (k', m' ∷ ms', u, (c', w'))

-- an instance leads to like instances over the other tree
pub leads_there : {N M : Type 0} {R : N → M → Type 0} (look : Contents N) (also : Contents M) (equation : Equations N) (other : Equations M) → EquationsLike R equation other →
    (i : Instance N) (i' : Instance M) (k : Instance N) → InstanceLike R i i' → AlikeBelow R look also equation i
    → Leads look equation i k → (k' : Instance M) × InstanceLike R k k' × Leads also other i' k'
leads_there {R = R} look also equation other like i i' k t a (inl e) = (i', subst (λ z. InstanceLike R z i') e t, inl refl)
leads_there look also equation other like i i' k t a (inr (is, w)) = let (k', is', s, w') = walks_there look also equation other like i i' is k t a w in (k', s, inr (is', w'))

-- and rests on like locations
pub supports_there : {N M : Type 0} {R : N → M → Type 0} (look : Contents N) (also : Contents M) (equation : Equations N) (other : Equations M) → EquationsLike R equation other →
    (i : Instance N) (i' : Instance M) (l : Location N) → InstanceLike R i i' → AlikeBelow R look also equation i
    → Supports look equation l i → (m : Location M) × LocationLike R l m × Supports also other m i'
supports_there look also equation other like i i' l t a (j, v, u) =
    let (j', s, v') = leads_there look also equation other like i i' j t a v in
    let b = alike_led look also equation i j a v in
    let (m, e, u') = seen_there look also equation other (like j j' s) (λ x y. b x (j, inl refl, y)) (λ k k' w x y h.
    carried_value look also equation other like k k' w y (alike_next look also equation j k b x) h) l u in
    (m, e, (j', v', u'))

like_values : {N M : Type 0} {R : N → M → Type 0} {v : Value N} {w : Value M} → OutcomeLike R (Finds v) (Finds w) → ValueLike R v w
like_values (find e) = e

no_value : {N M : Type 0} {R : N → M → Type 0} {x : FaultKind} {at : Instance N} {w : Value M} → OutcomeLike R (Faults x at) (Finds w) → ⊥
no_value h = elim h [ ]

-- an instance that is demanded before an outcome is found, and has a value over the other tree, has a like value
back_value : {N M : Type 0} {R : N → M → Type 0} (look : Contents N) (also : Contents M) (other : Equations M)
    (f : Instance N → Option (Outcome N)) (i j : Instance N) (j' : Instance M) (k : Value N → Run N (Value N))
    (o : Outcome N) (w : Value M)
    (p : Option (Outcome N)) → f j ≡ p → ((q : Outcome N) → p ≡ Some q → (q' : Outcome M) × Holds also other j' q' × OutcomeLike R q q') → HasValue also other j' w →
    settled f i (elim (value_in p) [ None ↦ Needs j | Some v ↦ tried look (λ m. value_in (f m)) (k v) ]) ≡ Some o →
    (v : Value N) × (p ≡ Some (Finds v)) × ValueLike R v w × (settled f i (tried look (λ m. value_in (f m)) (k v)) ≡ Some o)
back_value look also other f i j j' k o w None fj has h c = absurd (cc)
back_value {R = R} look also other f i j j' k o w (Some (Finds v)) fj has h c =
    let (q', g, s) = has (Finds v) refl in
    let e : q' ≡ Finds w = once also other j' q' (Finds w) g h in
    (v, refl, like_values (subst (λ z. OutcomeLike R (Finds v) z) e s), c)
back_value {R = R} look also other f i j j' k o w (Some (Faults x at)) fj has h c =
    let (q', g, s) = has (Faults x at) refl in
    let e : q' ≡ Finds w = once also other j' q' (Finds w) g h in
    absurd (no_value (subst (λ z. OutcomeLike R (Faults x at) z) e s))

reached_here : {N M : Type 0} {R : N → M → Type 0} (look : Contents N) (also : Contents M) (equation : Equations N)
    (other : Equations M) (n : ℕ) (i : Instance N) (o : Outcome N) {r : Run N (Value N)} {s : Run M (Value M)}
    → RunLike R (ValueLike R) r s →
    ((l : Location N) → Sees look (HasValue look equation) r l → AlikeAt R look also l) →
    ((j : Instance N) (j' : Instance M) (q : Outcome N) → Reaches look (HasValue look equation) r j → InstanceLike R j
    j' → outcome_at look equation n j ≡ Some q → (q' : Outcome M) × Holds also other j' q' × OutcomeLike R q q') →
    settled (outcome_at look equation n) i (tried look (λ m. value_in (outcome_at look equation n m)) r) ≡ Some o →
    (k' : Instance M) → Reaches also (HasValue also other) s k' → (k : Instance N) × InstanceLike R k k' × Reaches look (HasValue look equation) r k
reached_here look also equation other n i o (gives e) a d c k' r = absurd r
reached_here look also equation other n i o (fails f) a d c k' r = absurd r
reached_here look also equation other n i o (looks {l = l} {m = m} e step) a d c k' r = reached_here look also equation
    other n i o (step (look l) (also m) (a l (inl refl) m e)) (λ x u. a x (inr u)) d c k' r
reached_here {R = R} look also equation other n i o (demands {i = j} {j = j'} e step) a d c k' (inl q) = (j, subst (λ z. InstanceLike R j z) q e, inl refl)
reached_here look also equation other n i o (demands {i = j} {j = j'} {k = k} e step) a d c k' (inr (w, h, r)) =
    let (v, is, s, c') = back_value look also other (outcome_at look equation n) i j j' k o w (outcome_at look equation n j) refl (λ q x. d j j' q (inl refl) e x) h c in
    let (b, t, r') = reached_here look also equation other n i o (step v w s) (λ l u. a l (v, (n, is), u)) (λ b b' q u. d b b' q (inr (v, (n, is), u))) c' k' r in
    (b, t, inr (v, (n, is), r'))

seen_here : {N M : Type 0} {R : N → M → Type 0} (look : Contents N) (also : Contents M) (equation : Equations N)
    (other : Equations M) (n : ℕ) (i : Instance N) (o : Outcome N) {r : Run N (Value N)} {s : Run M (Value M)}
    → RunLike R (ValueLike R) r s →
    ((l : Location N) → Sees look (HasValue look equation) r l → AlikeAt R look also l) →
    ((j : Instance N) (j' : Instance M) (q : Outcome N) → Reaches look (HasValue look equation) r j → InstanceLike R j
    j' → outcome_at look equation n j ≡ Some q → (q' : Outcome M) × Holds also other j' q' × OutcomeLike R q q') →
    settled (outcome_at look equation n) i (tried look (λ m. value_in (outcome_at look equation n m)) r) ≡ Some o →
    (m : Location M) → Sees also (HasValue also other) s m → (l : Location N) × LocationLike R l m × Sees look (HasValue look equation) r l
seen_here look also equation other n i o (gives e) a d c k' r = absurd r
seen_here look also equation other n i o (fails f) a d c k' r = absurd r
seen_here {R = R} look also equation other n i o (looks {l = l} {m = m} e step) a d c k' (inl q) = (l, subst (λ z. LocationLike R l z) q e, inl refl)
seen_here look also equation other n i o (looks {l = l} {m = m} e step) a d c k' (inr r) =
    let (b, t, r') = seen_here look also equation other n i o (step (look l) (also m) (a l (inl refl) m e)) (λ x u. a x (inr u)) d c k' r in (b, t, inr r')
seen_here look also equation other n i o (demands {i = j} {j = j'} {k = k} e step) a d c k' (w, h, r) =
    let (v, is, s, c') = back_value look also other (outcome_at look equation n) i j j' k o w (outcome_at look equation n j) refl (λ q x. d j j' q (inl refl) e x) h c in
    let (b, t, r') = seen_here look also equation other n i o (step v w s) (λ l u. a l (v, (n, is), u)) (λ b b' q u. d b b' q (inr (v, (n, is), u))) c' k' r in
    (b, t, (v, (n, is), r'))

-- what is demanded from an instance with an outcome has a like outcome over the other tree
next_outcome : {N M : Type 0} {R : N → M → Type 0} (look : Contents N) (also : Contents M) (equation : Equations N)
    (other : Equations M) → EquationsLike R equation other → (n : ℕ) (i : Instance N)
    → AlikeBelow R look also equation i →
    (j : Instance N) (j' : Instance M) (q : Outcome N) → Comes look equation i j → InstanceLike R j j'
    → outcome_at look equation n j ≡ Some q → (q' : Outcome M) × Holds also other j' q' × OutcomeLike R q q'
next_outcome look also equation other like n i a j j' q u t h = carried look also equation other like j j' q t (alike_next look also equation i j a u) (n, h)

comes_here : {N M : Type 0} {R : N → M → Type 0} (look : Contents N) (also : Contents M) (equation : Equations N) (other : Equations M) → EquationsLike R equation other →
    (n : ℕ) (i : Instance N) (i' k' : Instance M) → Settles look equation (suc n) i → AlikeBelow R look also equation i
    → InstanceLike R i i' → Comes also other i' k'
    → (k : Instance N) × InstanceLike R k k' × Comes look equation i k
comes_here look also equation other like n i i' k' (o, e) a t c = reached_here look also equation other n i o
    (like i i' t) (λ l u. a l (i, inl refl, u)) (next_outcome look also equation other like n i a) e k' c

walks_here : {N M : Type 0} {R : N → M → Type 0} (look : Contents N) (also : Contents M) (equation : Equations N) (other : Equations M) → EquationsLike R equation other →
    (n : ℕ) (i : Instance N) (i' : Instance M) (is' : List (Instance M)) (k' : Instance M) → Settles look equation n i
    → AlikeBelow R look also equation i → InstanceLike R i i' → Walks also other i' is' k' →
    (k : Instance N) × (is : List (Instance N)) × InstanceLike R k k' × Walks look equation i is k
walks_here look also equation other like zero i i' is' k' (o, e) a t w = absurd (cc)
walks_here look also equation other like (suc n) i i' [] k' s a t c = let (k, u, c') = comes_here look also equation other like n i i' k' s a t c in (k, [], u, c')
walks_here look also equation other like (suc n) i i' (m' ∷ ms) k' s a t (c, w) =
    let (m, u, c') = comes_here look also equation other like n i i' m' s a t c in
    let (k, is, x, y) = walks_here look also equation other like n m m' ms k' (lower look equation n i m s c') (alike_next look also equation i m a c') u w in
    (k, m ∷ is, x, (c', y))

-- an instance with an outcome leads to nothing else over the other tree
pub leads_here : {N M : Type 0} {R : N → M → Type 0} (look : Contents N) (also : Contents M) (equation : Equations N) (other : Equations M) → EquationsLike R equation other →
    (n : ℕ) (i : Instance N) (i' k' : Instance M) → Settles look equation n i → AlikeBelow R look also equation i → InstanceLike R i i' → Leads also other i' k' →
    (k : Instance N) × InstanceLike R k k' × Leads look equation i k × (m : ℕ) × Settles look equation m k
leads_here {R = R} look also equation other like n i i' k' s a t (inl e) = (i, subst (λ z. InstanceLike R i z) e t, inl refl, n, s)
leads_here look also equation other like n i i' k' s a t (inr (is', w)) =
    let (k, is, u, v) = walks_here look also equation other like n i i' is' k' s a t w in
    let (m, (b, x)) = walked_lower look equation n i is k s v in
    (k, u, inr (is, v), m, x)

looked_here : {N M : Type 0} {R : N → M → Type 0} (look : Contents N) (also : Contents M) (equation : Equations N) (other : Equations M) → EquationsLike R equation other →
    (n : ℕ) (i : Instance N) (i' : Instance M) (m : Location M) → Settles look equation n i → AlikeBelow R look also equation i → InstanceLike R i i' → Sees also (HasValue also other) (other i') m →
    (l : Location N) × LocationLike R l m × Sees look (HasValue look equation) (equation i) l
looked_here look also equation other like zero i i' m (o, e) a t u = absurd (cc)
looked_here look also equation other like (suc n) i i' m (o, e) a t u = seen_here look also equation other n i o
    (like i i' t) (λ l u. a l (i, inl refl, u)) (next_outcome look also equation other like n i a) e m u

-- and rests on nothing else
pub supports_here : {N M : Type 0} {R : N → M → Type 0} (look : Contents N) (also : Contents M) (equation : Equations N) (other : Equations M) → EquationsLike R equation other →
    (i : Instance N) (i' : Instance M) (o : Outcome N) (m : Location M) → Holds look equation i o → AlikeBelow R look also equation i → InstanceLike R i i' → Supports also other m i' →
    (l : Location N) × LocationLike R l m × Supports look equation l i
supports_here look also equation other like i i' o m (n, h) a t (k', v, u) =
    let (k, s, v', d, x) = leads_here look also equation other like n i i' k' (o, h) a t v in
    let (l, e, u') = looked_here look also equation other like d k k' m x (alike_led look also equation i k a v') s u in
    (l, e, (k, v', u'))

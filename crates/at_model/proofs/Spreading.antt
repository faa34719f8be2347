-- What an instance with a value leads to has a value, and a fault of what an instance leads to is its own outcome.
use Rattle.std.proofs.Common.{◌≡◌, ℕ, zero, suc, ◌+◌, List, [], ◌∷◌, Option, Some, None, ◌⊎◌, inl, inr, refl, sym, subst, arith}
use Rattle.at_model.specs.Run.{Value, FaultKind, Run, Gives, Fails, Looks, Demands, Needs, Contents, tried, Instance}
use Rattle.at_model.specs.Meaning.{Outcome, Finds, Faults, value_in, Equations, settled, outcome_at, Holds, HasValue, Reaches, Comes, Walks, Leads}
use Rattle.at_model.proofs.Outcomes.{once, higher, settled_more}

-- the instance has a value at a height
abbrev pub Valued_at : {N : Type 0} → Contents N → Equations N → ℕ → Instance N → Type 0
Valued_at {N} look equation n i = (w : Value N) × (outcome_at look equation n i ≡ Some (Finds w))

demand_valued : {N : Type 0} (look : Contents N) (equation : Equations N) (n : ℕ) (i j m : Instance N)
    (k : Value N → Run N (Value N)) (u : Value N) (p : Option (Outcome N)) → outcome_at look equation n m ≡ p →
    ((v : Value N) → settled (outcome_at look equation n) i (tried look (λ m. value_in (outcome_at look equation n m))
    (k v)) ≡ Some (Finds u) → Reaches look (HasValue look equation) (k v) j → Valued_at look equation n j) →
    settled (outcome_at look equation n) i (elim (value_in p) [ None ↦ Needs m | Some v ↦ tried look (λ m. value_in (outcome_at look equation n m)) (k v) ]) ≡ Some (Finds u) →
    ((m ≡ j) ⊎ ((v : Value N) × HasValue look equation m v × Reaches look (HasValue look equation) (k v) j)) → Valued_at look equation n j
demand_valued look equation n i j m k u None is step e r = absurd (cc)
demand_valued look equation n i j m k u (Some (Faults x at)) is step e r = absurd (cc)
demand_valued look equation n i j m k u (Some (Finds w)) is step e (inl s) = (w, subst (λ z. outcome_at look equation n z ≡ Some (Finds w)) s is)
demand_valued look equation n i j m k u (Some (Finds w)) is step e (inr (v, h, r)) =
    let q : Finds w ≡ Finds v = once look equation m (Finds w) (Finds v) (n, is) h in let q' : w ≡ v = cc in step w e (subst (λ z. Reaches look (HasValue look equation) (k z) j) (sym q') r)

reached_valued : {N : Type 0} (look : Contents N) (equation : Equations N) (n : ℕ) (i j : Instance N) (r : Run N (Value N)) (u : Value N) →
    settled (outcome_at look equation n) i (tried look (λ m. value_in (outcome_at look equation n m)) r) ≡ Some (Finds u) → Reaches look (HasValue look equation) r j → Valued_at look equation n j
reached_valued look equation n i j (Gives a) u e r = absurd r
reached_valued look equation n i j (Fails f) u e r = absurd r
reached_valued look equation n i j (Looks l k) u e r = reached_valued look equation n i j (k (look l)) u e r
reached_valued look equation n i j (Demands m k) u e r = demand_valued look equation n i j m k u (outcome_at look equation n m) refl (λ v. reached_valued look equation n i j (k v) u) e r

pub next_valued : {N : Type 0} (look : Contents N) (equation : Equations N) (i j : Instance N) → (v : Value N)
    → HasValue look equation i v → Comes look equation i j → (w : Value N) × HasValue look equation j w
next_valued look equation i j v (zero, e) c = absurd (cc)
next_valued look equation i j v (suc n, e) c = let (w, f) = reached_valued look equation n i j (equation i) v e c in (w, (n, f))

pub walked_valued : {N : Type 0} (look : Contents N) (equation : Equations N) (i : Instance N) (is : List (Instance N))
    (j : Instance N) (v : Value N) → HasValue look equation i v → Walks look equation i is j
    → (w : Value N) × HasValue look equation j w
walked_valued look equation i [] j v h c = next_valued look equation i j v h c
walked_valued look equation i (m ∷ ms) j v h (c, w) = let (u, g) = next_valued look equation i m v h c in walked_valued look equation m ms j u g w

-- what an instance with a value leads to has a value
pub led_valued : {N : Type 0} (look : Contents N) (equation : Equations N) (i j : Instance N) (v : Value N)
    → HasValue look equation i v → Leads look equation i j → (w : Value N) × HasValue look equation j w
led_valued look equation i j v h (inl e) = (v, subst (λ z. HasValue look equation z v) e h)
led_valued look equation i j v h (inr (is, w)) = walked_valued look equation i is j v h w

abbrev pub Settles_as : {N : Type 0} → Contents N → Equations N → Instance N → Run N (Value N) → Outcome N → ℕ → Type 0
Settles_as look equation i r o n = settled (outcome_at look equation n) i (tried look (λ m. value_in (outcome_at look equation n m)) r) ≡ Some o

reached_fault : {N : Type 0} (look : Contents N) (equation : Equations N) (i j : Instance N) (r : Run N (Value N))
    (f : FaultKind) (at : Instance N) → Reaches look (HasValue look equation) r j → Holds look equation j (Faults f at)
    → (n : ℕ) × Settles_as look equation i r (Faults f at) n
reached_fault look equation i j (Gives a) f at r h = absurd r
reached_fault look equation i j (Fails x) f at r h = absurd r
reached_fault look equation i j (Looks l k) f at r h = reached_fault look equation i j (k (look l)) f at r h
reached_fault look equation i j (Demands m k) f at (inl s) (n, e) =
    let e' : outcome_at look equation n m ≡ Some (Faults f at) = subst (λ z. outcome_at look equation n z ≡ Some (Faults f at)) (sym s) e in (
      n,
      subst (λ p. settled (outcome_at look equation n) i (elim (value_in p) [
        | None ↦ Needs m
        | Some v ↦
            tried look (λ m. value_in (outcome_at look equation n m)) (k v)
      ]) ≡ Some (Faults f at)) (sym e') e',
    )
reached_fault look equation i j (Demands m k) f at (inr (v, (a, h), r)) g =
    let (b, x) = reached_fault look equation i j (k v) f at r g in
    let e : outcome_at look equation (a + b) m ≡ Some (Finds v) = higher look equation a b m (Finds v) h in
    let q : b + a ≡ a + b = omega arith in
    let y = higher look equation b a in
    let y' = rw q at y in
    let z = settled_more look (outcome_at look equation b) (outcome_at look equation (a + b)) y' i (k v) (Faults f at) x in (
      a + b,
      subst (λ p. settled (outcome_at look equation (a + b)) i (elim (value_in p) [
        | None ↦ Needs m
        | Some v ↦
            tried look (λ m. value_in (outcome_at look equation (a + b) m)) (k v)
      ]) ≡ Some (Faults f at)) (sym e) z,
    )

pub next_fault : {N : Type 0} (look : Contents N) (equation : Equations N) (i j : Instance N) (f : FaultKind) (at :
    Instance N) → Comes look equation i j → Holds look equation j (Faults f at) → Holds look equation i (Faults f at)
next_fault look equation i j f at c h = let (n, e) = reached_fault look equation i j (equation i) f at c h in (suc n, e)

pub walked_fault : {N : Type 0} (look : Contents N) (equation : Equations N) (i : Instance N) (is : List (Instance N))
    (j : Instance N) (f : FaultKind) (at : Instance N) → Walks look equation i is j
    → Holds look equation j (Faults f at) → Holds look equation i (Faults f at)
walked_fault look equation i [] j f at c h = next_fault look equation i j f at c h
walked_fault look equation i (m ∷ ms) j f at (c, w) h = next_fault look equation i m f at c (walked_fault look equation m ms j f at w h)

-- a fault of what an instance leads to is its outcome
pub led_fault : {N : Type 0} (look : Contents N) (equation : Equations N) (i j : Instance N) (f : FaultKind) (at :
    Instance N) → Leads look equation i j → Holds look equation j (Faults f at) → Holds look equation i (Faults f at)
led_fault look equation i j f at (inl e) h = subst (λ z. Holds look equation z (Faults f at)) (sym e) h
led_fault look equation i j f at (inr (is, w)) h = walked_fault look equation i is j f at w h

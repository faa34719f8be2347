-- A try over values that hold finds the outcome, or an instance that the evaluation comes to.
use Rattle.std.proofs.Common.{◌≡◌, ℕ, suc, ◌+◌, Option, Some, None, ◌⊎◌, inl, inr, refl, ap, arith}
use Rattle.at_model.specs.Run.{Value, Run, Gives, Fails, Looks, Demands, Tried, Valued, Faulted, Needs, Contents, Known, tried, Instance, MatchTried}
use Rattle.at_model.specs.Meaning.{Outcome, Finds, Faults, value_in, Equations, settled, outcome_at, Holds, Reaches, Comes, Right}
use Rattle.at_model.proofs.Outcomes.{settled_more, higher}

abbrev pub Final : {N : Type 0} → Instance N → Tried N (Value N) → Outcome N → Type 0
Final i (Valued v) o = Finds v ≡ o
Final i (Faulted f) o = Faults f i ≡ o
Final i (Needs j) o = ⊥

settles_demand : {N : Type 0} (look : Contents N) (equation : Equations N) (known : Known N) (i j : Instance N) (k : Value N → Run N (Value N)) (o : Outcome N) (p : Option (Value N)) →
    ((v : Value N) → p ≡ Some v → Holds look equation j (Finds v)) →
    ((v : Value N) → Final i (tried look known (k v)) o → (n : ℕ) × (settled (outcome_at look equation n) i (tried look (λ m. value_in (outcome_at look equation n m)) (k v)) ≡ Some o)) →
    Final i (elim p [ None ↦ Needs j | Some v ↦ tried look known (k v) ]) o →
    (n : ℕ) × (settled (outcome_at look equation n) i (elim (value_in (outcome_at look equation n j))
    [ None ↦ Needs j | Some v ↦ tried look (λ m. value_in (outcome_at look equation n m)) (k v) ]) ≡ Some o)
settles_demand look equation known i j k o None right step f = absurd f
settles_demand look equation known i j k o (Some v) right step f =
    let (a, h) = right v refl in
    let (b, g) = step v f in
    let e : outcome_at look equation (a + b) j ≡ Some (Finds v) = higher look equation a b j (Finds v) h in
    let q : b + a ≡ a + b = omega arith in
    let x = higher look equation b a in
    let x' = rw q at x in
    (a + b, rw e (settled_more look (outcome_at look equation b) (outcome_at look equation (a + b)) x' i (k v) o g))

pub settles : {N : Type 0} (look : Contents N) (equation : Equations N) (known : Known N) → Right look equation known
    → (i : Instance N) (r : Run N (Value N)) (o : Outcome N) → Final i (tried look known r) o →
    (n : ℕ) × (settled (outcome_at look equation n) i (tried look (λ m. value_in (outcome_at look equation n m)) r) ≡ Some o)
settles look equation known right i (Gives a) o f = (0, ap Some f)
settles look equation known right i (Fails x) o f = (0, ap Some f)
settles look equation known right i (Looks l k) o f = settles look equation known right i (k (look l)) o f
settles look equation known right i (Demands j k) o f = settles_demand look equation known i j k o (known j) (right j) (λ v. settles look equation known right i (k v) o) f

pub try_holds : {N : Type 0} (look : Contents N) (equation : Equations N) (known : Known N) → Right look equation known
    → (i : Instance N) (o : Outcome N) → Final i (tried look known (equation i)) o → Holds look equation i o
try_holds look equation known right i o f = let (n, e) = settles look equation known right i (equation i) o f in (suc n, e)

needed_demand : {N : Type 0} (look : Contents N) (equation : Equations N) (known : Known N) (i j : Instance N)
    (k : Value N → Run N (Value N)) (p : Option (Value N)) → known i ≡ p
    → ((v : Value N) → p ≡ Some v → Holds look equation i (Finds v)) →
    ((v : Value N) → tried look known (k v) ≡ Needs j → Reaches look (λ m v. Holds look equation m (Finds v)) (k v) j × (known j ≡ None)) →
    elim p as (λ _. Tried N (Value N)) [ None ↦ Needs i | Some v ↦ tried look known (k v) ] ≡ Needs j →
    ((i ≡ j) ⊎ ((v : Value N) × Holds look equation i (Finds v) × Reaches look (λ m v. Holds look equation m (Finds v)) (k v) j)) × (known j ≡ None)
needed_demand look equation known i j k None is right step e = let q : i ≡ j = cc in (inl q, rw (← q) is)
needed_demand look equation known i j k (Some v) is right step e = let (r, n) = step v e in (inr (v, right v refl, r), n)

pub needed : {N : Type 0} (look : Contents N) (equation : Equations N) (known : Known N) → Right look equation known
    → (r : Run N (Value N)) (j : Instance N) → tried look known r ≡ Needs j
    → Reaches look (λ m v. Holds look equation m (Finds v)) r j × (known j ≡ None)
needed look equation known right (Gives a) j e = absurd (cc)
needed look equation known right (Fails f) j e = absurd (cc)
needed look equation known right (Looks l k) j e = needed look equation known right (k (look l)) j e
needed look equation known right (Demands i k) j e = needed_demand look equation known i j k (known i) refl (right i) (λ v. needed look equation known right (k v) j) e

right_by : {N : Type 0} (look : Contents N) (equation : Equations N) (known : Known N) (i : Instance N) (t : Tried N (Value N)) →
    ((o : Outcome N) → Final i t o → Holds look equation i o) → ((j : Instance N) → t ≡ Needs j → Comes look equation i j × (known j ≡ None)) →
    MatchTried t (λ v. Holds look equation i (Finds v)) (λ f. Holds look equation i (Faults f i)) (λ j. Comes look equation i j × (known j ≡ None))
right_by look equation known i (Valued v) p q = p (Finds v) refl
right_by look equation known i (Faulted f) p q = p (Faults f i) refl
right_by look equation known i (Needs j) p q = q j refl

pub try_right : {N : Type 0} (look : Contents N) (equation : Equations N) (known : Known N) → Right look equation known → (i : Instance N) →
    MatchTried (tried look known (equation i)) (λ v. Holds look equation i (Finds v)) (λ f. Holds look equation i (Faults f i)) (λ j. Comes look equation i j × (known j ≡ None))
try_right look equation known right i = right_by look equation known i (tried look known (equation i)) (try_holds look equation known right i) (needed look equation known right (equation i))

-- An instance has one outcome, none has both an outcome and a circle, and a circle closes at one instance.
use Rattle.std.proofs.Common.{◌≡◌, ℕ, zero, suc, ◌+◌, ◌≤◌, List, [], ◌∷◌, Option, Some, None, ◌⊎◌, inl, inr, refl, sym, ◌∙◌, subst, arith}
use Rattle.at_model.specs.Run.{Value, Run, Gives, Fails, Looks, Demands, Needs, Contents, tried, Instance}
use Rattle.at_model.specs.Meaning.{Outcome, Finds, Faults, value_in, Equations, settled, outcome_at, Holds, Reaches, Comes, Walks, Among, Distinct, Circular}

-- what one answers, the other does too
abbrev pub Extends : {A B : Type 0} → (A → Option B) → (A → Option B) → Type 0
Extends {A} {B} f g = (a : A) (b : B) → f a ≡ Some b → g a ≡ Some b

value_kept : {N : Type 0} (p q : Option (Outcome N)) → ((o : Outcome N) → p ≡ Some o → q ≡ Some o) → (v : Value N) → value_in p ≡ Some v → value_in q ≡ Some v
value_kept None q h v e = cc
value_kept (Some (Finds w)) q h v e = rw (h (Finds w) refl) e
value_kept (Some (Faults f at)) q h v e = cc

-- a try with more known values settles on the same outcome
demand_more : {N : Type 0} (look : Contents N) (f g : Instance N → Option (Outcome N)) (i j : Instance N) (k : Value N → Run N (Value N)) (p q : Option (Outcome N)) → f j ≡ p → g j ≡ q →
    ((o : Outcome N) → p ≡ Some o → q ≡ Some o) →
    ((v : Value N) (o : Outcome N) → settled f i (tried look (λ j. value_in (f j)) (k v)) ≡ Some o → settled g i (tried look (λ j. value_in (g j)) (k v)) ≡ Some o) → (o : Outcome N) →
    settled f i (elim (value_in p) [ None ↦ Needs j | Some v ↦ tried look (λ j. value_in (f j)) (k v) ]) ≡ Some o →
    settled g i (elim (value_in q) [ None ↦ Needs j | Some v ↦ tried look (λ j. value_in (g j)) (k v) ]) ≡ Some o
demand_more look f g i j k None q fj gj more step o e = cc
demand_more look f g i j k (Some (Finds v)) q fj gj more step o e = rw (more (Finds v) refl) (step v o e)
demand_more look f g i j k (Some (Faults x at)) q fj gj more step o e = rw (more (Faults x at) refl) (gj ∙ more (Faults x at) refl ∙ sym fj ∙ e)

pub settled_more : {N : Type 0} (look : Contents N) (f g : Instance N → Option (Outcome N)) → Extends f g → (i : Instance N) (r : Run N (Value N)) (o : Outcome N) →
    settled f i (tried look (λ j. value_in (f j)) r) ≡ Some o → settled g i (tried look (λ j. value_in (g j)) r) ≡ Some o
settled_more look f g more i (Gives a) o e = e
settled_more look f g more i (Fails x) o e = e
settled_more look f g more i (Looks l k) o e = settled_more look f g more i (k (look l)) o e
settled_more look f g more i (Demands j k) o e = demand_more look f g i j k (f j) (g j) refl refl (more j) (λ v. settled_more look f g more i (k v)) o e

pub higher : {N : Type 0} (look : Contents N) (equation : Equations N) (n d : ℕ) → Extends (outcome_at look equation n) (outcome_at look equation (n + d))
higher look equation zero d j o e = cc
higher look equation (suc n) d j o e = let q : suc n + d ≡ suc (n + d) = omega arith in rw q (settled_more look
    (outcome_at look equation n) (outcome_at look equation (n + d)) (higher look equation n d) j (equation j) o e)

pub once : {N : Type 0} (look : Contents N) (equation : Equations N) (i : Instance N) (o p : Outcome N) → Holds look equation i o → Holds look equation i p → o ≡ p
once look equation i o p (m, h) (n, k) = let e = higher look equation m n i o h in let f = higher look equation n m i p k in let q : n + m ≡ m + n = omega arith in let g = rw q at f in cc

-- some outcome at a height
abbrev pub Settles : {N : Type 0} → Contents N → Equations N → ℕ → Instance N → Type 0
Settles {N} look equation n i = (o : Outcome N) × (outcome_at look equation n i ≡ Some o)

demand_lower : {N : Type 0} (look : Contents N) (equation : Equations N) (n : ℕ) (i j m : Instance N)
    (k : Value N → Run N (Value N)) (o : Outcome N) (p : Option (Outcome N)) → outcome_at look equation n m ≡ p →
    ((v : Value N) → settled (outcome_at look equation n) i (tried look (λ m. value_in (outcome_at look equation n m))
    (k v)) ≡ Some o → Reaches look (λ m v. Holds look equation m (Finds v)) (k v) j → Settles look equation n j) →
    settled (outcome_at look equation n) i (elim (value_in p) [ None ↦ Needs m | Some v ↦ tried look (λ m. value_in (outcome_at look equation n m)) (k v) ]) ≡ Some o →
    ((m ≡ j) ⊎ ((v : Value N) × Holds look equation m (Finds v) × Reaches look (λ m v. Holds look equation m (Finds v)) (k v) j)) → Settles look equation n j
demand_lower look equation n i j m k o None is step e (inl s) = absurd (cc)
demand_lower look equation n i j m k o None is step e (inr (v, h, r)) = absurd (cc)
demand_lower look equation n i j m k o (Some p) is step e (inl s) = (p, rw (← s) is)
demand_lower look equation n i j m k o (Some (Finds w)) is step e (inr (v, h, r)) = let q : Finds w ≡ Finds v =
    once look equation m (Finds w) (Finds v) (n, is) h in let q' : w ≡ v = cc in step w e (rw q' r)
demand_lower look equation n i j m k o (Some (Faults x at)) is step e (inr (v, h, r)) = let q : Faults x at ≡ Finds v = once look equation m (Faults x at) (Finds v) (n, is) h in absurd cc

-- what an instance with an outcome comes to has one, by demands nested less deep
reached_lower : {N : Type 0} (look : Contents N) (equation : Equations N) (n : ℕ) (i j : Instance N) (r : Run N (Value N)) (o : Outcome N) →
    settled (outcome_at look equation n) i (tried look (λ m. value_in (outcome_at look equation n m)) r) ≡ Some o →
    Reaches look (λ m v. Holds look equation m (Finds v)) r j → Settles look equation n j
reached_lower look equation n i j (Gives a) o e r = absurd r
reached_lower look equation n i j (Fails f) o e r = absurd r
reached_lower look equation n i j (Looks l k) o e r = reached_lower look equation n i j (k (look l)) o e r
reached_lower look equation n i j (Demands m k) o e r = demand_lower look equation n i j m k o (outcome_at look equation n m) refl (λ v. reached_lower look equation n i j (k v) o) e r

pub lower : {N : Type 0} (look : Contents N) (equation : Equations N) (n : ℕ) (i j : Instance N) → Settles look equation (suc n) i → Comes look equation i j → Settles look equation n j
lower look equation n i j (o, e) r = reached_lower look equation n i j (equation i) o e r

-- demand leads from i to j in one step or more
pub walked_lower : {N : Type 0} (look : Contents N) (equation : Equations N) (n : ℕ) (i : Instance N)
    (is : List (Instance N)) (j : Instance N) → Settles look equation n i → Walks look equation i is j
    → (m : ℕ) × ((m + 1 ≤ n) × Settles look equation m j)
walked_lower look equation zero i is j (o, e) w = absurd (cc)
walked_lower look equation (suc n) i [] j s w = (n, (omega arith, lower look equation n i j s w))
walked_lower look equation (suc n) i (m ∷ ms) j s (c, w) = let (k, (b, h)) = walked_lower look equation n m ms j (lower look equation n i m s c) w in (k, (omega arith, h))

-- what leads back to itself has no outcome
pub no_way_back : {N : Type 0} (look : Contents N) (equation : Equations N) (bound n : ℕ) (j : Instance N)
    (is : List (Instance N)) → n ≤ bound → Settles look equation n j → Walks look equation j is j → ⊥
no_way_back look equation zero n j is b (o, e) w = let z : n ≡ 0 = omega arith in let e' = rw z at e in cc
no_way_back look equation (suc bound) n j is b s w = let (m, (l, t)) = walked_lower look equation n j is j s w in no_way_back look equation bound m j is (omega arith) t w

-- a walk to one of its own instances leads from that one back to it
pub way_back : {N : Type 0} (look : Contents N) (equation : Equations N) (q : Instance N) (is : List (Instance N))
    (j : Instance N) → Walks look equation q is j → Among j (q ∷ is)
    → (back : List (Instance N)) × Walks look equation j back j
way_back look equation q [] j w (inl e) = ([], subst (λ x. Walks look equation x [] j) (sym e) w)
way_back look equation q (m ∷ ms) j w (inl e) = (m ∷ ms, subst (λ x. Walks look equation x (m ∷ ms) j) (sym e) w)
way_back look equation q [] j w (inr h) = absurd h
way_back look equation q (m ∷ ms) j (c, w) (inr h) = way_back look equation m ms j w h

-- an instance on a walk to one without outcome has none
pub none_before : {N : Type 0} (look : Contents N) (equation : Equations N) (i : Instance N) (is : List (Instance N))
    (j : Instance N) → Walks look equation i is j → ((n : ℕ) → Settles look equation n j → ⊥) → (n : ℕ)
    → Settles look equation n i → ⊥
none_before look equation i is j w none n s = let (m, (b, t)) = walked_lower look equation n i is j s w in none m t

pub circle_has_none : {N : Type 0} (look : Contents N) (equation : Equations N) (q j : Instance N) → Circular look equation q j → (n : ℕ) → Settles look equation n j → ⊥
circle_has_none look equation q j (is, d, w, a) n s = let (back, v) = way_back look equation q is j w a in no_way_back look equation n n j back (omega arith) s v

-- no instance has both an outcome and a circle
pub not_both : {N : Type 0} (look : Contents N) (equation : Equations N) (q j : Instance N) (o : Outcome N) → Holds look equation q o → Circular look equation q j → ⊥
not_both look equation q j o (n, h) (is, d, w, a) = none_before look equation q is j w (circle_has_none look equation q j (is, d, w, a)) n (o, h)

-- the first demand without a value is one
next_unique : {N : Type 0} (look : Contents N) (equation : Equations N) (r : Run N (Value N)) (i j : Instance N)
    → ((n : ℕ) → Settles look equation n i → ⊥) → ((n : ℕ) → Settles look equation n j → ⊥) →
    Reaches look (λ m v. Holds look equation m (Finds v)) r i → Reaches look (λ m v. Holds look equation m (Finds v)) r j → i ≡ j
next_unique look equation (Gives a) i j p q r s = absurd r
next_unique look equation (Fails f) i j p q r s = absurd r
next_unique look equation (Looks l k) i j p q r s = next_unique look equation (k (look l)) i j p q r s
next_unique look equation (Demands m k) i j p q (inl d) (inl e) = cc
next_unique look equation (Demands m k) i j p q (inl d) (inr (v, (n, h), s)) = absurd (p n (Finds v, rw (← d) h))
next_unique look equation (Demands m k) i j p q (inr (v, (n, h), r)) (inl e) = absurd (q n (Finds v, rw (← e) h))
next_unique look equation (Demands m k) i j p q (inr (v, h, r)) (inr (w, h', s)) = let e : Finds v ≡ Finds w = once look equation m (Finds v) (Finds w) h h' in let e' : v ≡ w = cc in
    let r' = rw e' at r in next_unique look equation (k w) i j p q r' s

among_is : {A : Type 0} (a b : A) (bs : List A) → a ≡ b → Among b bs → Among a bs
among_is a b bs e h = rw e h

-- two walks from one instance to where they close, neither meeting what the other has left behind
closes_once : {N : Type 0} (look : Contents N) (equation : Equations N) (past : List (Instance N)) (i : Instance N)
    (is : List (Instance N)) (j : Instance N) (ms : List (Instance N)) (k : Instance N) →
    ((n : ℕ) → Settles look equation n j → ⊥) → ((n : ℕ) → Settles look equation n k → ⊥) → Walks look equation i is j → Walks look equation i ms k →
    (Among j past ⊎ Among j is) → (Among k past ⊎ Among k ms) → ((a : Instance N) → Among a is → Among a past → ⊥)
    → ((a : Instance N) → Among a ms → Among a past → ⊥) → Distinct is → Distinct ms → j ≡ k
closes_once look equation past i [] j [] k p q w v a b c d e f = next_unique look equation (equation i) j k p q w v
closes_once look equation past i [] j (m ∷ ms) k p q w (x, v) (inl a) b c d e f = let s =
    next_unique look equation (equation i) j m p (none_before look equation m ms k v q) w x in
    absurd (d m (inl refl) (among_is m j past (sym s) a))
closes_once look equation past i [] j (m ∷ ms) k p q w (x, v) (inr a) b c d e f = absurd a
closes_once look equation past i (m ∷ is) j [] k p q (x, w) v a (inl b) c d e f = let s =
    next_unique look equation (equation i) k m q (none_before look equation m is j w p) v x in
    absurd (c m (inl refl) (among_is m k past (sym s) b))
closes_once look equation past i (m ∷ is) j [] k p q (x, w) v a (inr b) c d e f = absurd b
closes_once look equation past i (m ∷ is) j (n ∷ ms) k p q (x, w) (y, v) a b c d (e0, e) (f0, f) =
    let s : m ≡ n = next_unique look equation (equation i) m n (none_before look equation m is j w p) (none_before look equation n ms k v q) x y in
    closes_once look equation (m ∷ past) m is j ms k p q w (subst (λ z. Walks look equation z ms k) (sym s) v)
    (elim a [ inl h ↦ inl (inr h) | inr h ↦ elim h [ inl g ↦ inl (inl g) | inr g ↦ inr g ] ])
    (elim b [ inl h ↦ inl (inr h) | inr h ↦ elim h [ inl g ↦ inl (inl (g ∙ sym s)) | inr g ↦ inr g ] ])
    (λ z h g. elim g [ inl u ↦ e0 (among_is m z is (sym u) h) | inr u ↦ c z (inr h) u ])
    (λ z h g. elim g [ inl u ↦ f0 (among_is n z ms (sym s ∙ sym u) h) | inr u ↦ d z (inr h) u ])
    e f

start : {A : Type 0} (j q : A) (is : List A) → Among j (q ∷ is) → Among j (q ∷ []) ⊎ Among j is
start j q is (inl e) = inl (inl e)
start j q is (inr e) = inr e

-- a circle closes at one instance
pub closes_at_one : {N : Type 0} (look : Contents N) (equation : Equations N) (q j k : Instance N) → Circular look equation q j → Circular look equation q k → j ≡ k
closes_at_one look equation q j k (is, (d0, d), w, a) (ms, (e0, e), v, b) =
    closes_once look equation (q ∷ []) q is j ms k (circle_has_none look equation q j (is, (d0, d), w, a)) (circle_has_none look equation q k (ms, (e0, e), v, b)) w v (start j q is a) (start k q ms b)
    (λ z h g. elim g [ inl u ↦ d0 (among_is q z is (sym u) h) | inr u ↦ u ])
    (λ z h g. elim g [ inl u ↦ e0 (among_is q z ms (sym u) h) | inr u ↦ u ]) d e

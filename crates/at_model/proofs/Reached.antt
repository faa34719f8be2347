-- The instances to which demand leads, where the values of all of them are known, or it is known that they have none.
use Rattle.std.proofs.Common.{◌≡◌, ℕ, zero, suc, Bool, true, false, cond, List, [], ◌∷◌, ◌++◌, Option, Some, None, ◌⊎◌, inl, inr, refl, sym, subst}
use Rattle.at_model.specs.Run.{Value, Instance, Location, Run, Gives, Fails, Looks, Demands, Contents, Known, reads}
use Rattle.at_model.specs.Meaning.{Finds, Equations, HasValue, Reaches, Comes, Walks, Leads, Among, Right}
use Rattle.at_model.specs.Support.{Sees}
use Rattle.at_model.proofs.Outcomes.{once}

abbrev pub onto : {A : Type 0} → A → Option (List A) → Option (List A)
onto a None = None
onto a (Some as') = Some (a ∷ as')

onto_is : {A : Type 0} (a : A) (p : Option (List A)) (bs : List A) → onto a p ≡ Some bs → (as' : List A) × (p ≡ Some as') × (a ∷ as' ≡ bs)
onto_is a None bs e = absurd (cc)
onto_is a (Some as') bs e = (as', refl, cc)

-- an evaluation goes no further than to the demand of one of these: none has a value
abbrev pub AreLost : {N : Type 0} → Contents N → Equations N → (Instance N → Bool) → Type 0
AreLost {N} look equation lost = (i : Instance N) (v : Value N) → lost i ≡ true → HasValue look equation i v → ⊥

alone : {A : Type 0} (a : A) (b : Bool) (js : List A) → cond b (Some (a ∷ [])) None ≡ Some js → (b ≡ true) × (a ∷ [] ≡ js)
alone a true js e = (refl, cc)
alone a false js e = absurd cc

-- the instances that an evaluation demands, where each but the last has a value that is known, and the last one too, or is lost
abbrev pub demanded : {N A : Type 0} → Contents N → Known N → (Instance N → Bool) → Run N A → Option (List (Instance N))
demanded look known lost (Gives a) = Some []
demanded look known lost (Fails f) = Some []
demanded look known lost (Looks l k) = demanded look known lost (k (look l))
demanded look known lost (Demands i k) = elim (known i) [ None ↦ cond (lost i) (Some (i ∷ [])) None | Some v ↦ onto i (demanded look known lost (k v)) ]

none_among : {A : Type 0} (a : A) (as' : List A) → Some [] ≡ Some as' → Among a as' → ⊥
none_among a [] e h = h
none_among a (b ∷ bs) e h = cc

reaches_at : {N A : Type 0} (look : Contents N) (equation : Equations N) (known : Known N) (lost : Instance N → Bool)
    → Right look equation known → AreLost look equation lost → (i j : Instance N) (o : Option (Value N)) → known i ≡ o
    → (k : Value N → Run N A) (js : List (Instance N))
    → elim o [ None ↦ cond (lost i) (Some (i ∷ [])) None | Some v ↦ onto i (demanded look known lost (k v)) ] ≡ Some js
    → ((i ≡ j) ⊎ ((v : Value N) × HasValue look equation i v × Reaches look (HasValue look equation) (k v) j))
    → ((v : Value N) (ks : List (Instance N)) → demanded look known lost (k v) ≡ Some ks → Reaches look (HasValue look equation) (k v) j → Among j ks) → Among j js
reaches_at look equation known lost right none i j None is k js e (inl s) more = let p = alone i (lost i) js e in subst (Among j) p.1 (inl (sym s))
reaches_at look equation known lost right none i j None is k js e (inr (v, hv, r)) more = let p = alone i (lost i) js e in absurd (none i v p.0 hv)
reaches_at look equation known lost right none i j (Some v) is k js e (inl s) more = let p = onto_is i (demanded look known lost (k v)) js e in subst (Among j) p.2 (inl (sym s))
reaches_at look equation known lost right none i j (Some v) is k js e (inr (w, hw, r)) more =
    let p = onto_is i (demanded look known lost (k v)) js e in
    let s : Finds w ≡ Finds v = once look equation i (Finds w) (Finds v) hw (right i v is) in let same : w ≡ v = cc in
    subst (Among j) p.2 (inr (more v p.0 p.1 (subst (λ x. Reaches look (HasValue look equation) (k x) j) same r)))

pub reaches_in : {N A : Type 0} (look : Contents N) (equation : Equations N) (known : Known N)
    (lost : Instance N → Bool) → Right look equation known → AreLost look equation lost
    → (r : Run N A) (j : Instance N) (js : List (Instance N)) → demanded look known lost r ≡ Some js
    → Reaches look (HasValue look equation) r j → Among j js
reaches_in look equation known lost right none (Gives a) j js e h = absurd h
reaches_in look equation known lost right none (Fails f) j js e h = absurd h
reaches_in look equation known lost right none (Looks l k) j js e h = reaches_in look equation known lost right none (k (look l)) j js e h
reaches_in look equation known lost right none (Demands i k) j js e h = reaches_at look equation known lost right none i
    j (known i) refl k js e h (λ v ks f g. reaches_in look equation known lost right none (k v) j ks f g)

among_at : {N A : Type 0} (look : Contents N) (equation : Equations N) (known : Known N) (lost : Instance N → Bool)
    → Right look equation known → AreLost look equation lost → (i j : Instance N) (o : Option (Value N)) → known i ≡ o
    → (k : Value N → Run N A) (js : List (Instance N))
    → elim o [ None ↦ cond (lost i) (Some (i ∷ [])) None | Some v ↦ onto i (demanded look known lost (k v)) ] ≡ Some js → Among j js
    → ((v : Value N) (ks : List (Instance N)) → demanded look known lost (k v) ≡ Some ks → Among j ks → Reaches look (HasValue look equation) (k v) j)
    → (i ≡ j) ⊎ ((v : Value N) × HasValue look equation i v × Reaches look (HasValue look equation) (k v) j)
among_at look equation known lost right none i j None is k js e h more =
    let p = alone i (lost i) js e in let g : Among j (i ∷ []) = subst (Among j) (sym p.1) h in
    elim g [ inl s ↦ inl (sym s) | inr m ↦ absurd m ]
among_at {N} look equation known lost right none i j (Some v) is k js e h more =
    let p = onto_is i (demanded look known lost (k v)) js e in let g : Among j (i ∷ p.0) = subst (Among j) (sym p.2) h in
    elim g [ inl s ↦ inl (sym s) | inr m ↦ inr (v, right i v is, more v p.0 p.1 m) ]

pub in_reaches : {N A : Type 0} (look : Contents N) (equation : Equations N) (known : Known N)
    (lost : Instance N → Bool) → Right look equation known → AreLost look equation lost
    → (r : Run N A) (j : Instance N) (js : List (Instance N)) → demanded look known lost r ≡ Some js
    → Among j js → Reaches look (HasValue look equation) r j
in_reaches look equation known lost right none (Gives a) j js e h = none_among j js e h
in_reaches look equation known lost right none (Fails f) j js e h = none_among j js e h
in_reaches look equation known lost right none (Looks l k) j js e h = in_reaches look equation known lost right none (k (look l)) j js e h
in_reaches look equation known lost right none (Demands i k) j js e h = among_at look equation known lost right none i j
    (known i) refl k js e h (λ v ks f g. in_reaches look equation known lost right none (k v) j ks f g)

-- what is seen is read, and what is read is seen
sees_at : {N A : Type 0} (look : Contents N) (equation : Equations N) (known : Known N) (lost : Instance N → Bool)
    → Right look equation known → AreLost look equation lost → (i : Instance N) (l : Location N) (o : Option (Value N))
    → known i ≡ o → (k : Value N → Run N A) (js : List (Instance N))
    → elim o [ None ↦ cond (lost i) (Some (i ∷ [])) None | Some v ↦ onto i (demanded look known lost (k v)) ]
    ≡ Some js → ((v : Value N) × HasValue look equation i v × Sees look (HasValue look equation) (k v) l)
    → ((v : Value N) (ks : List (Instance N)) → demanded look known lost (k v) ≡ Some ks → Sees look (HasValue look equation) (k v) l → Among l (reads look known (k v)))
    → Among l (elim o [ None ↦ [] | Some v ↦ reads look known (k v) ])
sees_at look equation known lost right none i l None is k js e (v, hv, r) more = let p = alone i (lost i) js e in none i v p.0 hv
sees_at look equation known lost right none i l (Some v) is k js e (w, hw, r) more =
    let p = onto_is i (demanded look known lost (k v)) js e in
    let s : Finds w ≡ Finds v = once look equation i (Finds w) (Finds v) hw (right i v is) in let same : w ≡ v = cc in
    more v p.0 p.1 (subst (λ x. Sees look (HasValue look equation) (k x) l) same r)

pub sees_in : {N A : Type 0} (look : Contents N) (equation : Equations N) (known : Known N) (lost : Instance N → Bool)
    → Right look equation known → AreLost look equation lost → (r : Run N A) (l : Location N) (js : List (Instance N))
    → demanded look known lost r ≡ Some js
    → Sees look (HasValue look equation) r l → Among l (reads look known r)
sees_in look equation known lost right none (Gives a) l js e h = absurd h
sees_in look equation known lost right none (Fails f) l js e h = absurd h
sees_in look equation known lost right none (Looks m k) l js e (inl s) = inl (sym s)
sees_in look equation known lost right none (Looks m k) l js e (inr h) = inr (sees_in look equation known lost right none (k (look m)) l js e h)
sees_in look equation known lost right none (Demands i k) l js e h = sees_at look equation known lost right none i l
    (known i) refl k js e h (λ v ks f g. sees_in look equation known lost right none (k v) l ks f g)

reads_at : {N A : Type 0} (look : Contents N) (equation : Equations N) (known : Known N) → Right look equation known
    → (i : Instance N) (l : Location N) (o : Option (Value N)) → known i ≡ o → (k : Value N → Run N A)
    → Among l (elim o [ None ↦ [] | Some v ↦ reads look known (k v) ]) → ((v : Value N) → Among l (reads look known (k v)) → Sees look (HasValue look equation) (k v) l)
    → (v : Value N) × HasValue look equation i v × Sees look (HasValue look equation) (k v) l
reads_at look equation known right i l None is k h more = absurd h
reads_at look equation known right i l (Some v) is k h more = (v, right i v is, more v h)

pub in_sees : {N A : Type 0} (look : Contents N) (equation : Equations N) (known : Known N) → Right look equation known
    → (r : Run N A) (l : Location N) → Among l (reads look known r) → Sees look (HasValue look equation) r l
in_sees look equation known right (Gives a) l h = absurd h
in_sees look equation known right (Fails f) l h = absurd h
in_sees look equation known right (Looks m k) l (inl s) = inl (sym s)
in_sees look equation known right (Looks m k) l (inr h) = inr (in_sees look equation known right (k (look m)) l h)
in_sees look equation known right (Demands i k) l h = reads_at look equation known right i l (known i) refl k h (λ v g. in_sees look equation known right (k v) l g)

-- what all of these give, one behind the other
abbrev pub behind : {A : Type 0} → Option (List A) → Option (List A) → Option (List A)
behind None q = None
behind (Some x) None = None
behind (Some x) (Some y) = Some (x ++ y)

abbrev pub all_of : {A B : Type 0} → (A → Option (List B)) → List A → Option (List B)
all_of f [] = Some []
all_of f (a ∷ as') = behind (f a) (all_of f as')

behind_is : {A : Type 0} (p q : Option (List A)) (z : List A) → behind p q ≡ Some z → (x : List A) × (y : List A) × (p ≡ Some x) × (q ≡ Some y) × (x ++ y ≡ z)
behind_is None q z e = absurd (cc)
behind_is (Some x) None z e = absurd (cc)
behind_is (Some x) (Some y) z e = (x, y, refl, refl, cc)

pub front_among : {A : Type 0} (a : A) (x y : List A) → Among a x → Among a (x ++ y)
front_among a [] y h = absurd h
front_among a (b ∷ x) y (inl e) = inl e
front_among a (b ∷ x) y (inr h) = inr (front_among a x y h)

pub back_among : {A : Type 0} (a : A) (x y : List A) → Among a y → Among a (x ++ y)
back_among a [] y h = h
back_among a (b ∷ x) y h = inr (back_among a x y h)

pub either_among : {A : Type 0} (a : A) (x y : List A) → Among a (x ++ y) → Among a x ⊎ Among a y
either_among a [] y h = inr h
either_among a (b ∷ x) y (inl e) = inl (inl e)
either_among a (b ∷ x) y (inr h) = elim (either_among a x y h) [ inl g ↦ inl (inr g) | inr g ↦ inr g ]

given_in : {A B : Type 0} (f : A → Option (List B)) (as' : List A) (z : List B) → all_of f as' ≡ Some z → (a : A) → Among a as' → (x : List B) × (f a ≡ Some x) × ((b : B) → Among b x → Among b z)
given_in f [] z e a h = absurd h
given_in f (c ∷ cs) z e a (inl s) = let p = behind_is (f c) (all_of f cs) z e in (p.0, subst (λ d. f d ≡ Some p.0) (sym s) p.2, λ b g. subst (Among b) p.4 (front_among b p.0 p.1 g))
given_in f (c ∷ cs) z e a (inr h) = let p = behind_is (f c) (all_of f cs) z e in let q = given_in f cs p.1 p.3 a h in (q.0, q.1, λ b g. subst (Among b) p.4 (back_among b p.0 p.1 (q.2 b g)))

in_given : {A B : Type 0} (f : A → Option (List B)) (as' : List A) (z : List B) → all_of f as' ≡ Some z → (b : B) → Among b z → (a : A) × Among a as' × (x : List B) × (f a ≡ Some x) × Among b x
in_given f [] z e b h = absurd (none_among b z e h)
in_given f (c ∷ cs) z e b h =
    let p = behind_is (f c) (all_of f cs) z e in
    elim (either_among b p.0 p.1 (subst (Among b) (sym p.4) h)) [
      | inl g ↦ (c, inl refl, p.0, p.2, g)
      | inr g ↦ let q = in_given f cs p.1 p.3 b g in (q.0, inr q.1, q.2, q.3, q.4)
    ]

-- the instance, and all to which it leads by demands nested less than this deep, with repeats
abbrev pub reached : {N : Type 0} → Contents N → Equations N → Known N → (Instance N → Bool) → ℕ → Instance N → Option (List (Instance N))
reached look equation known lost zero i = None
reached look equation known lost (suc n) i = elim (demanded look known lost (equation i)) [ None ↦ None | Some js ↦ onto i (all_of (reached look equation known lost n) js) ]

-- the demands of an instance, and what is reached from them
opened : {N : Type 0} (look : Contents N) (equation : Equations N) (known : Known N) (lost : Instance N → Bool) (n : ℕ)
    (i : Instance N) (rs : List (Instance N)) (o : Option (List (Instance N)))
    → demanded look known lost (equation i) ≡ o
    → elim o [ None ↦ None | Some js ↦ onto i (all_of (reached look equation known lost n) js) ] ≡ Some rs
    → (js : List (Instance N)) × (ks : List (Instance N)) × (demanded look known lost (equation i) ≡ Some js) × (all_of (reached look equation known lost n) js ≡ Some ks) × (i ∷ ks ≡ rs)
opened look equation known lost n i rs None is e = absurd (cc)
opened look equation known lost n i rs (Some js) is e = let p = onto_is i (all_of (reached look equation known lost n) js) rs e in (js, p.0, is, p.1, p.2)

itself : {N : Type 0} (look : Contents N) (equation : Equations N) (known : Known N) (lost : Instance N → Bool) (n : ℕ)
    (i : Instance N) (rs : List (Instance N)) → reached look equation known lost n i ≡ Some rs → Among i rs
itself look equation known lost zero i rs e = absurd (cc)
itself look equation known lost (suc n) i rs e = let p = opened look equation known lost n i rs (demanded look known lost (equation i)) refl e in subst (Among i) p.4 (inl refl)

walks_in : {N : Type 0} (look : Contents N) (equation : Equations N) (known : Known N) (lost : Instance N → Bool)
    → Right look equation known → AreLost look equation lost → (n : ℕ) (i : Instance N) (is : List (Instance N))
    (j : Instance N) (rs : List (Instance N)) → reached look equation known lost n i ≡ Some rs
    → Walks look equation i is j → Among j rs
walks_in look equation known lost right none zero i is j rs e w = absurd (cc)
walks_in look equation known lost right none (suc n) i [] j rs e w =
    let p = opened look equation known lost n i rs (demanded look known lost (equation i)) refl e in
    let q = given_in (reached look equation known lost n) p.0 p.1 p.3 j (reaches_in look equation known lost right none (equation i) j p.0 p.2 w) in
    subst (Among j) p.4 (inr (q.2 j (itself look equation known lost n j q.0 q.1)))
walks_in look equation known lost right none (suc n) i (m ∷ ms) j rs e (c, w) =
    let p = opened look equation known lost n i rs (demanded look known lost (equation i)) refl e in
    let q = given_in (reached look equation known lost n) p.0 p.1 p.3 m (reaches_in look equation known lost right none (equation i) m p.0 p.2 c) in
    subst (Among j) p.4 (inr (q.2 j (walks_in look equation known lost right none n m ms j q.0 q.1 w)))

pub leads_in : {N : Type 0} (look : Contents N) (equation : Equations N) (known : Known N) (lost : Instance N → Bool)
    → Right look equation known → AreLost look equation lost → (n : ℕ) (i j : Instance N) (rs : List (Instance N))
    → reached look equation known lost n i ≡ Some rs
    → Leads look equation i j → Among j rs
leads_in look equation known lost right none n i j rs e (inl s) = subst (λ x. Among x rs) s (itself look equation known lost n i rs e)
leads_in look equation known lost right none n i j rs e (inr (is, w)) = walks_in look equation known lost right none n i is j rs e w

one_more : {N : Type 0} (look : Contents N) (equation : Equations N) (i a j : Instance N) → Comes look equation i a → Leads look equation a j → Leads look equation i j
one_more look equation i a j c (inl s) = inr ([], subst (Comes look equation i) s c)
one_more look equation i a j c (inr (is, w)) = inr (a ∷ is, (c, w))

pub in_leads : {N : Type 0} (look : Contents N) (equation : Equations N) (known : Known N) (lost : Instance N → Bool)
    → Right look equation known → AreLost look equation lost → (n : ℕ) (i j : Instance N) (rs : List (Instance N))
    → reached look equation known lost n i ≡ Some rs
    → Among j rs → Leads look equation i j
in_leads look equation known lost right none zero i j rs e h = absurd (cc)
in_leads look equation known lost right none (suc n) i j rs e h =
    let p = opened look equation known lost n i rs (demanded look known lost (equation i)) refl e in
    elim (subst (Among j) (sym p.4) h) [
      | inl s ↦ inl (sym s)
      | inr g ↦ let q = in_given (reached look equation known lost n) p.0 p.1 p.3 j g in
          one_more look equation i q.0 j (in_reaches look equation known lost right none (equation i) q.0 p.0 p.2 q.1)
          (in_leads look equation known lost right none n q.0 j q.2 q.3 q.4)
    ]

-- all that is reached has a value told for each of its demands
pub each_demands : {N : Type 0} (look : Contents N) (equation : Equations N) (known : Known N)
    (lost : Instance N → Bool) (n : ℕ) (i j : Instance N) (rs : List (Instance N))
    → reached look equation known lost n i ≡ Some rs → Among j rs
    → (js : List (Instance N)) × (demanded look known lost (equation j) ≡ Some js)
each_demands look equation known lost zero i j rs e h = absurd (cc)
each_demands {N} look equation known lost (suc n) i j rs e h =
    let p = opened look equation known lost n i rs (demanded look known lost (equation i)) refl e in
    elim (subst (Among j) (sym p.4) h) [
      | inl s ↦ (p.0, subst (λ x. demanded look known lost (equation x) ≡ Some p.0) (sym s) p.2)
      | inr g ↦ let q = in_given (reached look equation known lost n) p.0 p.1 p.3 j g in each_demands look equation known lost n q.0 j q.2 q.3 q.4
    ]

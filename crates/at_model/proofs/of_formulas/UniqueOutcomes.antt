-- An instance has one outcome, also where attributes are circular.
use Rattle.std.proofs.Common.{◌≡◌, ℕ, zero, suc, Bool, true, false, List, [], ◌∷◌, ◌++◌, Option, Some, None, inl, inr, refl, sym, ◌∙◌, subst}
use Rattle.at_model.specs.Run.{Value, Run, Gives, Fails, Looks, Demands, Contents, Instance, FaultKind}
use Rattle.at_model.specs.Meaning.{Outcome, Finds, Faults, Among}
use Rattle.at_model.proofs.Reached.{front_among, back_among, either_among}
use Rattle.at_model.specs.of_fixpoints.Formulas.{Formula, Known, Asks, atoms, Forms}
use Rattle.at_model.specs.of_fixpoints.Fixpoints.{End, Made, Spoilt, Ends, LeadsOver, stays, goes, AreFormed, Meets, again, formed, spoilt, Leaves, known, asks, true_both, true_left, true_right, false_left, false_right, false_both, Valued, HoldsAt, EndsAt, Holds}

-- how equations end, in one way or another
abbrev pub Ending : Type 0 → Type 1
Ending N = Instance N → End N (Formula N) → Type 0

-- an equation has one end, in both ways
abbrev pub OneEnd : {N : Type 0} → Ending N → Ending N → Type 0
OneEnd {N} E F = (j : Instance N) (d e : End N (Formula N)) → E j d → F j e → d ≡ e

turned_round : {N : Type 0} (E F : Ending N) → OneEnd E F → OneEnd F E
turned_round E F one j d e f g = sym (one j e d g f)

-- what ends so where demands have one outcome in both
pub ends_once : {N A : Type 0} (look : Contents N) (H G : Instance N → Outcome N → Type 0) →
    ((j : Instance N) (o p : Outcome N) → H j o → G j p → o ≡ p) →
    (i : Instance N) (r : Run N A) (d e : End N A) → Ends look H i r d → Ends look G i r e → d ≡ e
ends_once look H G one i (Gives a) d e x y = sym x ∙ y
ends_once look H G one i (Fails f) d e x y = sym x ∙ y
ends_once look H G one i (Looks l k) d e x y = ends_once look H G one i (k (look l)) d e x y
ends_once look H G one i (Demands j k) d e (inl (v, h, x)) (inl (w, g, y)) =
    let q : Finds v ≡ Finds w = one j (Finds v) (Finds w) h g in let q' : v ≡ w = cc in
    ends_once look H G one i (k w) d e (subst (λ z. Ends look H i (k z) d) q' x) y
ends_once look H G one i (Demands j k) d e (inl (v, h, x)) (inr (f, at, g, y)) =
    let q : Finds v ≡ Faults f at = one j (Finds v) (Faults f at) h g in absurd cc
ends_once look H G one i (Demands j k) d e (inr (f, at, h, x)) (inl (w, g, y)) =
    let q : Faults f at ≡ Finds w = one j (Faults f at) (Finds w) h g in absurd cc
ends_once look H G one i (Demands j k) d e (inr (f, at, h, x)) (inr (c, to, g, y)) =
    let q : Faults f at ≡ Faults c to = one j (Faults f at) (Faults c to) h g in cc

-- and so do equations at two depths
ends_by : {N : Type 0} (look : Contents N) (forms : Forms N) (m n : ℕ) →
    ((j : Instance N) (o p : Outcome N) → HoldsAt look forms m j o → HoldsAt look forms n j p → o ≡ p) →
    OneEnd (EndsAt look forms m) (EndsAt look forms n)
ends_by look forms m n one j d e f g =
    ends_once look (HoldsAt look forms m) (HoldsAt look forms n) one j (forms.formula j) d e f g

-- a search goes one way
pub meets_once : {N : Type 0} (E F : Ending N) → OneEnd E F →
    (seen todo : List (Instance N)) (k l : FaultKind) (a b : Instance N) → Meets E seen todo k a →
    Meets F seen todo l b → (k ≡ l) × (a ≡ b)
meets_once E F one seen [] k l a b x y = absurd (elim x [ ])
meets_once E F one seen (i ∷ todo) k l a b (again _ h x) (again _ g y) = meets_once E F one seen todo k l a b x y
meets_once E F one seen (i ∷ todo) k l a b (again _ h x) (formed _ f n g y) = absurd (n h)
meets_once E F one seen (i ∷ todo) k l a b (again _ h x) (spoilt _ n g) = absurd (n h)
meets_once E F one seen (i ∷ todo) k l a b (formed _ f n h x) (again _ g y) = absurd (n g)
meets_once E F one seen (i ∷ todo) k l a b (formed _ f n h x) (formed _ g m c y) =
    let q : Made f ≡ Made g = one i (Made f) (Made g) h c in let q' : f ≡ g = cc in
    meets_once E F one (i ∷ seen) (atoms g ++ todo) k l a b
    (subst (λ z. Meets E (i ∷ seen) (atoms z ++ todo) k a) q' x) y
meets_once E F one seen (i ∷ todo) k l a b (formed _ f n h x) (spoilt _ m g) = let q : Made f ≡ Spoilt l b =
    one i (Made f) (Spoilt l b) h g in absurd cc
meets_once E F one seen (i ∷ todo) k l a b (spoilt _ n h) (again _ g y) = absurd (n g)
meets_once E F one seen (i ∷ todo) k l a b (spoilt _ n h) (formed _ g m x y) = let q : Spoilt k a ≡ Made g =
    one i (Spoilt k a) (Made g) h x in absurd cc
meets_once E F one seen (i ∷ todo) k l a b (spoilt _ n h) (spoilt _ m g) = let q : Spoilt k a ≡ Spoilt l b =
    one i (Spoilt k a) (Spoilt l b) h g in (cc, cc)

-- these instances have formulas, over such instances
abbrev pub IsClosed : {N : Type 0} → Ending N → (Instance N → Type 0) → Type 0
IsClosed {N} E P = (j : Instance N) → P j →
    (f : Formula N) × E j (Made f) × ((k : Instance N) → Among k (atoms f) → P k)

pub one_further : {N : Type 0} (E : Ending N) (i j k : Instance N) (f : Formula N) → E j (Made f) →
    Among k (atoms f) → LeadsOver E i j → LeadsOver E i k
one_further E _ _ k f h a (stays i) = goes i k k f h a (stays k)
one_further E _ _ k f h a (goes i m j g x b l) = goes i m k g x b (one_further E m j k f h a l)

pub closed : {N : Type 0} (E : Ending N) (i : Instance N) → AreFormed E i → IsClosed E (LeadsOver E i)
closed E i c j l = let (f, h) = c j l in (f, h, λ k a. one_further E i j k f h a l)

-- from within what is closed no search meets a fault
pub none_met : {N : Type 0} (E F : Ending N) → OneEnd E F →
    (P : Instance N → Type 0) → IsClosed F P → (seen todo : List (Instance N)) (k : FaultKind) (a : Instance N) →
    ((j : Instance N) → Among j todo → P j) → Meets E seen todo k a → ⊥
none_met E F one P c seen [] k a m x = absurd (elim x [ ])
none_met E F one P c seen (i ∷ todo) k a m (again _ h x) = none_met E F one P c seen todo k a (λ j n. m j (inr n)) x
none_met E F one P c seen (i ∷ todo) k a m (formed _ f n h x) =
    let (g, y, d) = c i (m i (inl refl)) in
    let q : Made f ≡ Made g = one i (Made f) (Made g) h y in let q' : f ≡ g = cc in
    none_met E F one P c (i ∷ seen) (atoms f ++ todo) k a
    (λ j n. elim (either_among j (atoms f) todo n)
    [ inl u ↦ d j (subst (λ z. Among j (atoms z)) q' u) | inr u ↦ m j (inr u) ]) x
none_met E F one P c seen (i ∷ todo) k a m (spoilt _ n h) =
    let (g, y, d) = c i (m i (inl refl)) in
    let q : Spoilt k a ≡ Made g = one i (Spoilt k a) (Made g) h y in absurd cc

-- a derivation over what is closed holds by the formulas that there are
pub leaves_over : {N : Type 0} (E F : Ending N) → OneEnd E F →
    (P : Instance N → Type 0) → IsClosed F P → (b : Bool) (f : Formula N) → Leaves (λ j f. E j (Made f)) b f →
    ((k : Instance N) → Among k (atoms f) → P k) → Leaves (λ j f. F j (Made f)) b f
leaves_over E F one P c _ _ (known b) m = known b
leaves_over E F one P c _ _ (asks b i f h x) m =
    let (g, y, n) = c i (m i (inl refl)) in
    let q : Made f ≡ Made g = one i (Made f) (Made g) h y in let q' : f ≡ g = cc in
    asks b i f (subst (λ z. F i (Made z)) (sym q') y)
    (leaves_over E F one P c b f x (λ k a. n k (subst (λ z. Among k (atoms z)) q' a)))
leaves_over E F one P c _ _ (true_both {f} {g} x y) m =
    true_both (leaves_over E F one P c false f x (λ k a. m k (front_among k (atoms f) (atoms g) a)))
    (leaves_over E F one P c false g y (λ k a. m k (back_among k (atoms f) (atoms g) a)))
leaves_over E F one P c _ _ (true_left {f} {g} x) m =
    true_left (leaves_over E F one P c false f x (λ k a. m k (front_among k (atoms f) (atoms g) a)))
leaves_over E F one P c _ _ (true_right {f} {g} x) m =
    true_right (leaves_over E F one P c false g x (λ k a. m k (back_among k (atoms f) (atoms g) a)))
leaves_over E F one P c _ _ (false_left {f} {g} x) m =
    false_left (leaves_over E F one P c true f x (λ k a. m k (front_among k (atoms f) (atoms g) a)))
leaves_over E F one P c _ _ (false_right {f} {g} x) m =
    false_right (leaves_over E F one P c true g x (λ k a. m k (back_among k (atoms f) (atoms g) a)))
leaves_over E F one P c _ _ (false_both {f} {g} x y) m =
    false_both (leaves_over E F one P c true f x (λ k a. m k (front_among k (atoms f) (atoms g) a)))
    (leaves_over E F one P c true g y (λ k a. m k (back_among k (atoms f) (atoms g) a)))

-- an instance by itself is led to
pub itself : {N : Type 0} (E : Ending N) (i k : Instance N) → Among k (i ∷ []) → LeadsOver E i k
itself E i k (inl r) = subst (λ z. LeadsOver E i z) (sym r) (stays i)
itself E i k (inr u) = absurd u

-- the value of an instance is one
valued_once : {N : Type 0} (E F : Ending N) → OneEnd E F →
    (i : Instance N) (start : Option Bool) (v w : Value N) → AreFormed E i → AreFormed F i →
    Valued (λ j f. E j (Made f)) start i v → Valued (λ j f. F j (Made f)) start i w → v ≡ w
valued_once E F one i None v w s t x y = let q : Made (Known v) ≡ Made (Known w) =
    one i (Made (Known v)) (Made (Known w)) x y in let q' : Known v ≡ Known w = cc in cc
valued_once E F one i (Some b) v w s t (inl (x, p)) (inl (y, q)) = p ∙ sym q
valued_once E F one i (Some b) v w s t (inr (x, p)) (inr (y, q)) = p ∙ sym q
valued_once E F one i (Some b) v w s t (inl (x, p)) (inr (y, q)) =
    absurd (y (leaves_over E F one (LeadsOver F i) (closed F i t) b (Asks i) x (itself F i)))
valued_once E F one i (Some b) v w s t (inr (x, p)) (inl (y, q)) =
    absurd (x (leaves_over F E (turned_round E F one) (LeadsOver E i) (closed E i s) b (Asks i) y (itself E i)))

-- An instance has one outcome, at whatever depths.
pub once_at : {N : Type 0} (look : Contents N) (forms : Forms N) (m n : ℕ) (i : Instance N) (o p : Outcome N) →
    HoldsAt look forms m i o → HoldsAt look forms n i p → o ≡ p
once_at look forms zero n i o p x y = absurd x
once_at look forms (suc m) zero i o p x y = absurd y
once_at look forms (suc m) (suc n) i (Finds v) (Finds w) (s, x) (t, y) =
    let q : v ≡ w = valued_once (EndsAt look forms m) (EndsAt look forms n)
    (ends_by look forms m n (once_at look forms m n)) i (forms.starts i.attribute) v w s t x y in cc
once_at look forms (suc m) (suc n) i (Finds v) (Faults k at) (s, x) (r, t) =
    absurd (none_met (EndsAt look forms n) (EndsAt look forms m)
    (turned_round (EndsAt look forms m) (EndsAt look forms n) (ends_by look forms m n (once_at look forms m n)))
    (LeadsOver (EndsAt look forms m) i) (closed (EndsAt look forms m) i s) [] (i ∷ []) k at
    (itself (EndsAt look forms m) i) t)
once_at look forms (suc m) (suc n) i (Faults k at) (Finds w) (r, s) (t, y) =
    absurd (none_met (EndsAt look forms m) (EndsAt look forms n) (ends_by look forms m n (once_at look forms m n))
    (LeadsOver (EndsAt look forms n) i) (closed (EndsAt look forms n) i t) [] (i ∷ []) k at
    (itself (EndsAt look forms n) i) s)
once_at look forms (suc m) (suc n) i (Faults k at) (Faults l to) (c, s) (d, t) =
    let q = meets_once (EndsAt look forms m) (EndsAt look forms n) (ends_by look forms m n (once_at look forms m n))
    [] (i ∷ []) k l at to s t in let q' = q.0 in let q'' = q.1 in cc

pub ends_at : {N : Type 0} (look : Contents N) (forms : Forms N) (m n : ℕ) (j : Instance N)
    (d e : End N (Formula N)) →
    EndsAt look forms m j d → EndsAt look forms n j e → d ≡ e
ends_at look forms m n j d e f g = ends_by look forms m n (once_at look forms m n) j d e f g

pub once : {N : Type 0} (look : Contents N) (forms : Forms N) (i : Instance N) (o p : Outcome N) →
    Holds look forms i o → Holds look forms i p → o ≡ p
once look forms i o p (m, x) (n, y) = once_at look forms m n i o p x y

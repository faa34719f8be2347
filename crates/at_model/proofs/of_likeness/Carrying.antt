-- Where two trees are alike at all that supports an instance, it has a like outcome in both.
use Rattle.std.proofs.Common.{◌≡◌, ℕ, zero, suc, [], ◌∷◌, Option, Some, None, inl, inr, refl, ◌∙◌, subst}
use Rattle.at_model.specs.Run.{Value, Location, Run, Needs, Contents, tried, Instance}
use Rattle.at_model.specs.Meaning.{Outcome, Finds, Faults, value_in, Equations, settled, outcome_at, Holds, Reaches, Comes, Walks, Leads}
use Rattle.at_model.specs.Support.{Sees, Supports}
use Rattle.at_model.specs.Alike.{ValueLike, InstanceLike, RunLike, gives, fails, looks, demands, OutcomeLike, find, fault, EquationsLike, AlikeAt, HasLike}

answered : {N M : Type 0} {R : N → M → Type 0} (look : Contents N) (also : Contents M)
    (f : Instance N → Option (Outcome N)) (g : Instance M → Option (Outcome M)) (i j : Instance N) (i' j' : Instance M)
    (k : Value N → Run N (Value N)) (h : Value M → Run M (Value M)) (o : Outcome N)
    (p' : Option (Outcome M)) {q : Outcome N} {q' : Outcome M} → OutcomeLike R q q' → p' ≡ Some q' → f j ≡ Some q → g j' ≡ p' →
    ((v : Value N) (w : Value M) → f j ≡ Some (Finds v) → ValueLike R v w → settled f i (tried look
    (λ m. value_in (f m)) (k v)) ≡ Some o → HasLike R o (settled g i' (tried also (λ m. value_in (g m)) (h w)))) →
    settled f i (elim (value_in (Some q)) [ None ↦ Needs j | Some v ↦ tried look (λ m. value_in (f m)) (k v) ]) ≡ Some o →
    HasLike R o (settled g i' (elim (value_in p') [ None ↦ Needs j' | Some v ↦ tried also (λ m. value_in (g m)) (h v) ]))
answered look also f g i j i' j' k h o p' (find s) e fj gj step c = rw e (step _ _ fj s c)
answered {R = R} look also f g i j i' j' k h o p' (fault x {i = a} {j = b} s) e fj gj step c = let u : Faults x a ≡ o =
    cc in rw e (Faults x b, gj ∙ e, subst (λ z. OutcomeLike R z (Faults x b)) u (fault x s))

demanded : {N M : Type 0} {R : N → M → Type 0} (look : Contents N) (also : Contents M)
    (f : Instance N → Option (Outcome N)) (g : Instance M → Option (Outcome M)) (i j : Instance N) (i' j' : Instance M)
    (k : Value N → Run N (Value N)) (h : Value M → Run M (Value M)) (o : Outcome N)
    (p : Option (Outcome N)) → f j ≡ p → ((q : Outcome N) → p ≡ Some q → HasLike R q (g j')) →
    ((v : Value N) (w : Value M) → f j ≡ Some (Finds v) → ValueLike R v w → settled f i (tried look
    (λ m. value_in (f m)) (k v)) ≡ Some o → HasLike R o (settled g i' (tried also (λ m. value_in (g m)) (h w)))) →
    settled f i (elim (value_in p) [ None ↦ Needs j | Some v ↦ tried look (λ m. value_in (f m)) (k v) ]) ≡ Some o →
    HasLike R o (settled g i' (elim (value_in (g j')) [ None ↦ Needs j' | Some v ↦ tried also (λ m. value_in (g m)) (h v) ]))
demanded look also f g i j i' j' k h o None fj like step c = absurd (cc)
demanded look also f g i j i' j' k h o (Some q) fj like step c = let (q', e, s) = like q refl in answered look also f g i j i' j' k h o (g j') s e fj refl step c

along : {N M : Type 0} {R : N → M → Type 0} (look : Contents N) (also : Contents M) (equation : Equations N) (n : ℕ)
    (g : Instance M → Option (Outcome M)) (i : Instance N) (i' : Instance M) (o : Outcome N) → InstanceLike R i i' →
    {r : Run N (Value N)} {s : Run M (Value M)} → RunLike R (ValueLike R) r s →
    ((l : Location N) → Sees look (λ m v. Holds look equation m (Finds v)) r l → AlikeAt R look also l) →
    ((j : Instance N) (j' : Instance M) (q : Outcome N) → Reaches look (λ m v. Holds look equation m (Finds v)) r j
    → InstanceLike R j j' → outcome_at look equation n j ≡ Some q → HasLike R q (g j')) →
    settled (outcome_at look equation n) i (tried look (λ m. value_in (outcome_at look equation n m)) r) ≡ Some o → HasLike R o (settled g i' (tried also (λ m. value_in (g m)) s))
along {R = R} look also equation n g i i' o t (gives {b = b} e) a d c = (Finds b, refl, subst (λ z. OutcomeLike R z (Finds b)) (cc) (find e))
along {R = R} look also equation n g i i' o t (fails f) a d c = (Faults f i', refl, subst (λ z. OutcomeLike R z (Faults f i')) (cc) (fault f t))
along look also equation n g i i' o t (looks {l = l} {m = m} e step) a d c = along look also equation n g i i' o t (step (look l) (also m) (a l (inl refl) m e)) (λ x u. a x (inr u)) d c
along look also equation n g i i' o t (demands {i = j} {j = j'} {k = k} {h = h} e step) a d c =
    demanded look also (outcome_at look equation n) g i j i' j' k h o (outcome_at look equation n j) refl (λ q x. d j j' q (inl refl) e x)
    (λ v w x y z. along look also equation n g i i' o t (step v w y) (λ l u. a l (v, (n, x), u)) (λ b b' q u s f. d b b' q (inr (v, (n, x), u)) s f) z) c

-- what the next instance leads to
pub first_led : {N : Type 0} (look : Contents N) (equation : Equations N) (i j k : Instance N) → Comes look equation i j → Leads look equation j k → Leads look equation i k
first_led {N} look equation i j k c (inl e) = let w : Walks look equation i [] k = subst (λ z. Comes look equation i z) e c in inr ([], w)
first_led {N} look equation i j k c (inr (is, w)) = inr (j ∷ is, (c, w))

pub carried_at : {N M : Type 0} {R : N → M → Type 0} (look : Contents N) (also : Contents M) (equation : Equations N) (other : Equations M) → EquationsLike R equation other →
    (n : ℕ) (i : Instance N) (i' : Instance M) (o : Outcome N) → InstanceLike R i i' → ((l : Location N) → Supports look equation l i → AlikeAt R look also l) →
    outcome_at look equation n i ≡ Some o → HasLike R o (outcome_at also other n i')
carried_at look also equation other like zero i i' o t a c = absurd (cc)
carried_at look also equation other like (suc n) i i' o t a c =
    along look also equation n (outcome_at also other n) i i' o t (like i i' t) (λ l u. a l (i, inl refl, u))
    (λ j j' q u s e. carried_at look also equation other like n j j' q s (λ l (b, v, w). a l (b, first_led look equation i j b u v, w)) e) c

pub carried : {N M : Type 0} {R : N → M → Type 0} (look : Contents N) (also : Contents M) (equation : Equations N) (other : Equations M) → EquationsLike R equation other →
    (i : Instance N) (i' : Instance M) (o : Outcome N) → InstanceLike R i i' → ((l : Location N) → Supports look equation l i → AlikeAt R look also l) →
    Holds look equation i o → (q : Outcome M) × Holds also other i' q × OutcomeLike R o q
carried look also equation other like i i' o t a (n, h) = let (q, e, s) = carried_at look also equation other like n i i' o t a h in (q, (n, e), s)

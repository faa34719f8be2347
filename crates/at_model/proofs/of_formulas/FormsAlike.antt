-- Formulas of one expression over related nodes are alike.
use Rattle.std.proofs.Common.{◌≡◌, ℕ, Bool, true, false, ◌&&◌, cond, not, List, refl, ap}
use Rattle.at_model.specs.Classes.{Classes}
use Rattle.at_model.specs.Run.{Value, Run, Instance}
use Rattle.at_model.specs.Bodies.{Expr, Not, And, Or, Choose, Call, Exists, SeekAny, AnyOf, Over, Scope, bound, truth_of, bool_eq, elements_of}
use Rattle.at_model.specs.Alike.{ListLike, end, more, ValueLike, truth, slot, InstanceLike, RunLike, gives, looks, demands, ScopeLike, SameLike}
use Rattle.at_model.proofs.of_likeness.ExpressionsAlike.{then-like, truth_of-like, node_of-like, eval-like, eval_all-like, bound-like, nodes_of-like, drawer_of-like}
use Rattle.at_model.specs.of_fixpoints.Formulas.{Formula, is_surely, is_known_as, joined, turned, Starts, starts_from, demanded, fold_form, two_sides, form}
use Rattle.at_model.specs.of_fixpoints.Likeness.{FormulaLike, known_like, asks_like, both_like, either_like}

cond-like : {N M A B : Type 0} {R : N → M → Type 0} {Q : A → B → Type 0} (b c : Bool) {x y : Run N A}
    {x' y' : Run M B} → b ≡ c → RunLike R Q x x' → RunLike R Q y y' → RunLike R Q (cond b x y) (cond c x' y')
cond-like true true e p q = p
cond-like false false e p q = q
cond-like true false e p q = cc
cond-like false true e p q = cc

cond_formula : {N M : Type 0} {R : N → M → Type 0} (b c : Bool) {f g : Formula N} {h k : Formula M} → b ≡ c →
    FormulaLike R f h → FormulaLike R g k → FormulaLike R (cond b f g) (cond c h k)
cond_formula true true e p q = p
cond_formula false false e p q = q
cond_formula true false e p q = absurd cc
cond_formula false true e p q = absurd cc

elements_of-like : {N M : Type 0} {R : N → M → Type 0} (part : ℕ) {v : Value N} {w : Value M} → ValueLike R v w →
    RunLike R (ListLike R) (elements_of part v) (elements_of part w)
elements_of-like part e = then-like (node_of-like e) (λ m n r. looks (slot part r) (λ c d s. gives s))

surely-like : {N M : Type 0} {R : N → M → Type 0} (b : Bool) {f : Formula N} {g : Formula M} → FormulaLike R f g →
    is_surely b f ≡ is_surely b g
surely-like b (known_like s) = ap (bool_eq b) (truth_of-like s)
surely-like b (asks_like s) = refl
surely-like true (both_like {f = f} {g = g} {h = h} {k = k} s t) = let x = surely-like true s in let y =
    surely-like true t in rw (x, y) refl
surely-like false (both_like {f = f} {g = g} {h = h} {k = k} s t) = let x = surely-like false s in let y =
    surely-like false t in rw (x, y) refl
surely-like true (either_like {f = f} {g = g} {h = h} {k = k} s t) = let x = surely-like true s in let y =
    surely-like true t in rw (x, y) refl
surely-like false (either_like {f = f} {g = g} {h = h} {k = k} s t) = let x = surely-like false s in let y =
    surely-like false t in rw (x, y) refl

known_as-like : {N M : Type 0} {R : N → M → Type 0} (b : Bool) {f : Formula N} {g : Formula M} → FormulaLike R f g →
    is_known_as b f ≡ is_known_as b g
known_as-like b (known_like s) = ap (bool_eq b) (truth_of-like s)
known_as-like b (asks_like s) = refl
known_as-like b (both_like s t) = refl
known_as-like b (either_like s t) = refl

joined-like : {N M : Type 0} {R : N → M → Type 0} (b : Bool) {f g : Formula N} {h k : Formula M} → FormulaLike R f h →
    FormulaLike R g k → FormulaLike R (joined b f g) (joined b h k)
joined-like true {f} {g} {h} {k} s t =
    cond_formula (is_known_as true f) (is_known_as true h) (known_as-like true s) t
    (cond_formula (is_known_as true g) (is_known_as true k) (known_as-like true t) s (both_like s t))
joined-like false {f} {g} {h} {k} s t =
    cond_formula (is_known_as false f) (is_known_as false h) (known_as-like false s) t
    (cond_formula (is_known_as false g) (is_known_as false k) (known_as-like false t) s (either_like s t))

turned-like : {N M : Type 0} {R : N → M → Type 0} (p : Bool) {v : Value N} {w : Value M} → ValueLike R v w →
    ValueLike R (turned p v) (turned p w)
turned-like true s = s
turned-like {R = R} false {v} {w} s = rw (truth_of-like s) (truth (not (truth_of w)))

demanded-like : {N M : Type 0} {R : N → M → Type 0} (starts : Starts) (b p : Bool) (i : Instance N) (j : Instance M) →
    InstanceLike R i j → RunLike R (FormulaLike R) (demanded starts b p i) (demanded starts b p j)
demanded-like starts b p i j t =
    cond-like (p && starts_from b (starts i.attribute)) (p && starts_from b (starts j.attribute))
    (ap (λ a. p && starts_from b (starts a)) t.attribute)
    (gives (asks_like t)) (demands t (λ v w s. gives (known_like (turned-like p s))))

fold_form-like : {N M : Type 0} {R : N → M → Type 0} (p : Bool) (test : N → Run N (Formula N))
    (other : M → Run M (Formula M)) → ((m : N) (n : M) → R m n → RunLike R (FormulaLike R) (test m) (other n)) →
    {ms : List N} {ns : List M} → ListLike R ms ns →
    RunLike R (FormulaLike R) (fold_form p test ms) (fold_form p other ns)
fold_form-like p test other s end = gives (known_like (truth (not p)))
fold_form-like p test other s (more r rs) =
    then-like (s _ _ r) (λ f g e. cond-like (is_surely p f) (is_surely p g) (surely-like p e) (gives e)
    (then-like (fold_form-like p test other s rs) (λ h k d. gives (joined-like (not p) e d))))

two_sides-like : {N M : Type 0} {R : N → M → Type 0} (b : Bool) {r s : Run N (Formula N)} {x y : Run M (Formula M)} →
    RunLike R (FormulaLike R) r x → RunLike R (FormulaLike R) s y →
    RunLike R (FormulaLike R) (two_sides b r s) (two_sides b x y)
two_sides-like b t u =
    then-like t (λ f g e. cond-like (is_surely (not b) f) (is_surely (not b) g) (surely-like (not b) e) (gives e)
    (then-like u (λ h k d. gives (joined-like b e d))))

pub form-like : {N M : Type 0} {R : N → M → Type 0} {same : N → N → Bool} {other : M → M → Bool} (classes : Classes) →
    SameLike R same other → (starts : Starts) (b p : Bool) (e : Expr) (f : Scope N) (g : Scope M) → ScopeLike R f g →
    RunLike R (FormulaLike R) (form classes same starts b p e f) (form classes other starts b p e g)
form-like classes s starts b p (Not e) f g t = form-like classes s starts b (not p) e f g t
form-like classes s starts b p (And e d) f g t =
    two_sides-like p (form-like classes s starts b p e f g t) (form-like classes s starts b p d f g t)
form-like classes s starts b p (Or e d) f g t =
    two_sides-like (not p) (form-like classes s starts b p e f g t) (form-like classes s starts b p d f g t)
form-like classes s starts b p (Choose c e d) f g t =
    then-like (eval-like classes s c f g t)
    (λ v w q. cond-like (truth_of v) (truth_of w) (truth_of-like q) (form-like classes s starts b p e f g t)
    (form-like classes s starts b p d f g t))
form-like classes s starts b p (Call e attribute es) f g t =
    then-like (eval-like classes s e f g t)
    (λ v w q. then-like (eval_all-like classes s es f g t) (λ vs ws qs. then-like (node_of-like q) (λ m n r.
    demanded-like starts b p (record { node = m; attribute = attribute; arguments = vs })
    (record { node = n; attribute = attribute; arguments = ws })
    (record { node = r; attribute = refl; arguments = qs }))))
form-like classes s starts b p (Exists e part d) f g t =
    then-like (eval-like classes s e f g t) (λ v w q. then-like (elements_of-like part q) (λ ms ns rs.
    fold_form-like p (λ m. form classes _ starts b p d (bound f m)) (λ n. form classes _ starts b p d (bound g n))
    (λ m n r. form-like classes s starts b p d (bound f m) (bound g n) (bound-like t m n r)) rs))
form-like classes s starts b p (Over AnyOf e d) f g t =
    then-like (eval-like classes s e f g t) (λ v w q.
    fold_form-like p (λ m. form classes _ starts b p d (bound f m)) (λ n. form classes _ starts b p d (bound g n))
    (λ m n r. form-like classes s starts b p d (bound f m) (bound g n) (bound-like t m n r)) (nodes_of-like q))
form-like classes s starts b p (SeekAny e part key a d) f g t =
    then-like (eval-like classes s e f g t) (λ v w q. then-like (eval-like classes s a f g t) (λ v' w' q'.
    then-like (drawer_of-like part key q q') (λ ms ns rs.
    fold_form-like p (λ m. form classes _ starts b p d (bound f m)) (λ n. form classes _ starts b p d (bound g n))
    (λ m n r. form-like classes s starts b p d (bound f m) (bound g n) (bound-like t m n r)) rs)))
form-like classes s starts b p e f g t =
    then-like (eval-like classes s e f g t) (λ v w q. gives (known_like (turned-like p q)))

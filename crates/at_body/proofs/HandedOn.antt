-- Arguments of a call that are what was passed.
use Rattle.std.proofs.Common.{◌≡◌, ◌<◌, ◌≤◌, ◌+◌, ℕ, zero, suc, List, [], ◌∷◌, ◌++◌, length, drop, get_or, map, refl, ap, sym, subst, ◌∙◌, arith, Some, Result, Ok, Err, IfOk}
use Rattle.std.proofs.lemmas.List.{drop_all, length-map}
use Rattle.at_model.specs.Bodies.{Expr, Exprs, Name, demand_of, expr, named}
use Rattle.at_model.specs.Classes.{Classes}
use Rattle.at_model.specs.Run.{Value, Ref, Run, Gives, ◌>>=◌}
use Rattle.at_rules.specs.Bodies.{body_view, bodies_view}
use Rattle.at_rules.specs.declared.body.Body.{Body}
use Rattle.at_body.specs.declared.todo.Now.{Now}
use Rattle.at_body.specs.declared.todo.Now.TheVariants.{Ask}
use Rattle.at_body.specs.declared.trial.Trial.{Trial}
use Rattle.at_body.specs.declared.value.Value.{Value as ValueCode}
use Rattle.at_body.specs.Rest.{called, ev, ev_all, load, place_of, rest, resumed, weight}
use Rattle.at_body.specs.Standing.{Place, names}
use Rattle.at_body.specs.Values.{value_view}

-- the arguments behind so many come to what was passed behind so many
abbrev pub Comes : Classes → Place → List Body → ℕ → Type 0
Comes classes p bs k = ev_all classes (bodies_view (drop k bs)) p ≡ Gives (drop k (map value_view p.passed))

drop_at : {A : Type 0} (xs : List A) (k : ℕ) (x : A) → k < length xs → x ≡ get_or xs k x → drop k xs ≡ x ∷ drop (suc k) xs
drop_at [] k x less e = absurd (omega (arith, less))
drop_at (y ∷ xs) zero x less e = ap (λ z. z ∷ xs) (sym e)
drop_at (y ∷ xs) (suc k) x less e = drop_at xs k x (omega (arith, less)) e

passed_at : (vs : List ValueCode) (k : ℕ) → k < length vs → drop k (map value_view vs) ≡ named (map value_view vs) k ∷ drop (suc k) (map value_view vs)
passed_at [] k less = absurd (omega (arith, less))
passed_at (v ∷ vs) zero less = refl
passed_at (v ∷ vs) (suc k) less = passed_at vs k (omega (arith, less))

-- the name behind those of the folds
named_behind : (ns : List ℕ) (vs : List (Value ℕ)) (i k : ℕ) → i ≡ length ns + k → named (names ns vs) i ≡ named vs k
named_behind [] vs i k e = let f : i ≡ k = omega (arith, e) in ap (named vs) f
named_behind (m ∷ ns) vs zero k e = absurd (omega (arith, e))
named_behind (m ∷ ns) vs (suc i) k e = named_behind ns vs i k (omega (arith, e))

together : (classes : Classes) (p : Place) (e : Expr) (es : Exprs) (v : Value ℕ) (vs : List (Value ℕ)) → ev classes e p ≡ Gives v → ev_all classes es p ≡ Gives vs → ev_all classes (expr e es) p ≡ Gives (v ∷ vs)
together classes p e es v vs g h =
    ap (λ (r : Run ℕ (Value ℕ)). r >>= λ w. ev_all classes es p >>= λ ws. Gives (w ∷ ws)) g
    ∙ ap (λ (r : Run ℕ (List (Value ℕ))). r >>= λ ws. Gives (v ∷ ws)) h

-- the argument at an index is the name of what was passed there
pub one_more : (classes : Classes) (p : Place) (bs : List Body) (k m : ℕ) (b : Body) → m ≡ k + 1 → k < length bs → k < length p.passed → b ≡ get_or bs k b → body_view b ≡ Name (length p.bound + k) →
    Comes classes p bs m → Comes classes p bs k
one_more classes p bs k m b e less few at is h =
    let next : m ≡ suc k = omega (arith, e) in
    let others : Comes classes p bs (suc k) = subst (λ j. Comes classes p bs j) next h in
    let value : ev classes (body_view b) p ≡ Gives (named (map value_view p.passed) k) = ap (λ x. ev classes x p) is ∙ ap Gives (named_behind p.bound (map value_view p.passed) (length p.bound + k) k refl) in
    ap (λ xs. ev_all classes (bodies_view xs) p) (drop_at bs k b less at)
    ∙ together classes p (body_view b) (bodies_view (drop (suc k) bs)) (named (map value_view p.passed) k) (drop (suc k) (map value_view p.passed)) value others
    ∙ ap Gives (sym (passed_at p.passed k few))

-- behind the last one there is nothing
pub none_more : (classes : Classes) (p : Place) (bs : List Body) (k : ℕ) → length bs ≤ k → length p.passed ≤ k → Comes classes p bs k
none_more classes p bs k h g = rw (drop_all k bs h, drop_all k (map value_view p.passed) (rw (length-map p.passed value_view) g)) refl

-- the call hands on what was passed
pub handed : {E : Type 0} (classes : Classes) (res : Result Now E) (t : Trial) (a n : ℕ) (es : Exprs) → ev_all classes es (place_of t) ≡ Gives (map value_view t.arguments) → IfOk res (λ now. now ≡ Ask a n t.arguments) →
    IfOk res (λ now. called classes t a (Ref (Some n)) [] es ≡ rest classes now t)
handed classes (Ok now) t a n es h is = rw is (ap (λ (r : Run ℕ (List (Value ℕ))). (r >>= λ ws. demand_of a (Ref (Some n)) ([] ++ ws)) >>= resumed classes t) h)
handed classes (Err e) t a n es h is = tt

pub handed_less : {E : Type 0} (res : Result Now E) (t : Trial) (a n m : ℕ) → IfOk res (λ now. now ≡ Ask a n t.arguments) → IfOk res (λ now. weight now t < m + 2 + load t.todo)
handed_less (Ok now) t a n m is = rw is (omega arith)
handed_less (Err e) t a n m is = tt

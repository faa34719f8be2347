-- The first thing to do for the value of an expression.
use Rattle.std.proofs.Common.{◌≡◌, ◌<◌, ◌≤◌, ◌+◌, ℕ, List, [], ◌∷◌, ◌++◌, refl, ap, sym, ◌∙◌, Result, Ok, Err, IfOk, Bor, arith, subst, map, length, append-nil}
use Rattle.std.proofs.lemmas.List.{map-append}
use Rattle.at_model.specs.Classes.{Classes}
use Rattle.at_model.specs.Bodies.{Expr, Exprs, no_exprs, expr, Call, demand_of}
use Rattle.at_model.specs.Run.{Value, Ref, Instance, Location, Contents, Run, Gives, ◌>>=◌}
use Rattle.at_rules.specs.declared.body.Body.{Body, Row_of-Body, end_of-Body, more_of-Body, items-the_row-Body, Call'}
use Rattle.at_body.specs.declared.value.Value.{Value as ValueCode}
use Rattle.at_body.specs.Values.{value_view}
use Rattle.at_body.specs.declared.todo.Asking.{Asking}
use Rattle.at_body.specs.declared.todo.Todo.{Todo}
use Rattle.at_body.specs.declared.todo.Fold.{Fold}
use Rattle.at_body.specs.declared.todo.Fold.TheVariants as fold
use Rattle.at_body.specs.declared.todo.Now.{Now}
use Rattle.at_body.specs.declared.todo.Now.TheVariants.{Ask, Enter}
use Rattle.at_body.specs.declared.trial.Trial.{Trial}
use Rattle.at_rules.specs.Bodies.{body_view, row_view, bodies_view}
use Rattle.at_body.specs.Standing.{inside}
use Rattle.at_model.specs.Follow.{Waits, follow}
use Rattle.at_body.specs.Rest.{rest, ev, ev_all, begun, onto, resumed, used, called, gone_over, settled, then, outer, after, place_of, weight, cost, load}
use Rattle.at_body.specs.Size.{size}
use Rattle.at_body.proofs.Runs.{regroup, fun_ext}

-- what it means that an expression is evaluated for a use of its value
abbrev pub Put : {E : Type 0} → Result Now E → Trial → Trial → Bor Body → Todo → Type 0
Put res t new part todo = IfOk res (λ now. (now ≡ Enter part) × (new ≡ record t { todo = todo ∷ t.todo }))

-- an expression whose value comes from that of another one
pub brought : {E : Type 0} (classes : Classes) (tree : Contents ℕ) (res : Result Now E) (t new : Trial) (e first : Expr) (todo : Todo) →
    IfOk res (λ now. follow tree t.reads (ev classes first (place_of t) >>= used classes todo t) ≡ follow tree new.reads (rest classes now new)) → outer todo (place_of t) ≡ place_of t →
    ev classes e (place_of t) ≡ ev classes first (place_of t) >>= then classes todo (place_of t) →
    IfOk res (λ now. follow tree t.reads (begun classes t e) ≡ follow tree new.reads (rest classes now new))
brought classes tree (Ok now) t new e first todo h stays shape =
    let s : begun classes t e ≡ ev classes first (place_of t) >>= λ v. then classes todo (place_of t) v >>= after classes t.todo (outer todo (place_of t)) =
    rw (stays, shape) (regroup (ev classes first (place_of t)) (then classes todo (place_of t)) (after classes t.todo (place_of t))) in
    ap (follow tree t.reads) s ∙ h
brought classes tree (Err e') t new e first todo h stays shape = tt

pub entered : {E : Type 0} (classes : Classes) (tree : Contents ℕ) (res : Result Now E) (t new : Trial) (e : Expr) (part : Bor Body) (todo : Todo) →
    Put res t new part todo → outer todo (place_of t) ≡ place_of t →
    ev classes e (place_of t) ≡ ev classes (body_view part.now) (place_of t) >>= then classes todo (place_of t) →
    IfOk res (λ now. follow tree t.reads (begun classes t e) ≡ follow tree new.reads (rest classes now new))
entered {E} classes tree (Ok now) t new e part todo (is, becomes) stays shape = brought {E = E} classes tree (Ok now) t new e (body_view part.now) todo (rw (is, becomes) refl) stays shape
entered classes tree (Err e') t new e part todo h stays shape = tt

-- the arguments of a call as a list
pub of_row : (n : _) (row : Row_of-Body n) → row_view row ≡ bodies_view (items-the_row-Body n row)
of_row _ end_of-Body = refl
of_row _ (more_of-Body b rest) = ap (expr (body_view b)) (of_row _ rest)

-- a call whose arguments stand in a list
pub call_view : (x : Body) (p : _) (b : Body) (a : ℕ) (shape : _) (row : Row_of-Body _) (bs : List Body) (part : Body) → x ≡ Call' p b a shape row → items-the_row-Body _ row ≡ bs → part ≡ b →
    body_view x ≡ Call (body_view part) a (bodies_view bs)
call_view x p b a shape row bs part is q s = rw (is, s, ← q) (ap (Call (body_view b) a) (of_row _ row))

pub lighter : {E : Type 0} (res : Result Now E) (t new : Trial) (n : ℕ) (part : Bor Body) (todo : Todo) →
    Put res t new part todo → size (body_view part.now) + cost todo < n → IfOk res (λ now. weight now new < n + load t.todo)
lighter (Ok now) t new n part todo (is, becomes) less = rw (is, becomes) (omega (arith, less))
lighter (Err e') t new n part todo h less = tt

-- what is left is as much as before, and less than that and more
pub settles : {E : Type 0} (res : Result Now E) (new : Trial) (l n : ℕ) → IfOk res (λ now. weight now new ≡ l) → 0 < n → IfOk res (λ now. weight now new < n + l)
settles (Ok now) new l n e more = omega (arith, e, more)
settles (Err e') new l n e more = tt

pub below_more : {E : Type 0} (res : Result Now E) (new : Trial) (l m n : ℕ) → IfOk res (λ now. weight now new < m + l) → m ≤ n → IfOk res (λ now. weight now new < n + l)
below_more (Ok now) new l m n h more = omega (arith, h, more)
below_more (Err e') new l m n h more = tt

-- the same bound, of the same expression
pub bounded : {E : Type 0} (res : Result Now E) (new : Trial) (l m n : ℕ) → IfOk res (λ now. weight now new < m + l) → m ≡ n → IfOk res (λ now. weight now new < n + l)
bounded res new l m n h e = let P : ℕ → Type 0 = λ k. IfOk res (λ now. weight now new < k + l) in subst P e h

-- the demand of a call
pub demands : (tree : Contents ℕ) (seen : List (Location ℕ)) (classes : Classes) (t : Trial) (i : Instance ℕ) (n a : ℕ) (vs : List ValueCode) →
    i ≡ record { node = n; attribute = a; arguments = map value_view vs } → follow tree seen (rest classes (Ask a n vs) t) ≡ (Waits i (resumed classes t), seen)
demands tree seen classes t i n a vs e = rw e refl

-- all arguments of a call are there
pub completed : (classes : Classes) (t : Trial) (call it : Asking) (vs : List ValueCode) (r : Run ℕ (Value ℕ)) → it ≡ call → vs ≡ it.done.items →
    onto classes t (demand_of it.attribute (Ref it.node) (map value_view vs)) ≡ r → onto classes t (demand_of call.attribute (Ref call.node) (map value_view call.done.items)) ≡ r
completed classes t call it vs r e f h =
    ap (λ (x : Asking). onto classes t (demand_of x.attribute (Ref x.node) (map value_view x.done.items))) (sym e)
    ∙ ap (λ ws. onto classes t (demand_of it.attribute (Ref it.node) (map value_view ws))) (sym f) ∙ h

-- an expression is evaluated for a use of its value
pub enters : {E : Type 0} (classes : Classes) (res : Result Now E) (t new : Trial) (r : Run ℕ (Value ℕ)) (part : Bor Body) (todo : Todo) →
    Put res t new part todo → r ≡ ev classes (body_view part.now) (place_of t) >>= used classes todo t → IfOk res (λ now. r ≡ rest classes now new)
enters classes (Ok now) t new r part todo (is, becomes) shape = rw (is, becomes) shape
enters classes (Err e') t new r part todo h shape = tt

no_arg : (classes : Classes) (t : Trial) (a : ℕ) (v : Value ℕ) (done : List (Value ℕ)) → called classes t a v done no_exprs ≡ demand_of a v done >>= resumed classes t
no_arg classes t a v done = ap (λ ws. demand_of a v ws >>= resumed classes t) (append-nil done)

pub none_left : (classes : Classes) (t : Trial) (a : ℕ) (v : Value ℕ) (done : List (Value ℕ)) (bs : List Body) → length bs ≡ 0 → called classes t a v done (bodies_view bs) ≡ demand_of a v done >>= resumed classes t
none_left classes t a v done [] e = no_arg classes t a v done
none_left classes t a v done (b ∷ bs) e = absurd (omega (arith, e))

-- one argument more is there
pub passed_on : {E : Type 0} (classes : Classes) (res : Result Now E) (t new : Trial) (a : ℕ) (v : Value ℕ) (w : ValueCode) (done items : List ValueCode) (es : Exprs) →
    items ≡ done ++ w ∷ [] → IfOk res (λ now. called classes t a v (map value_view items) es ≡ rest classes now new) → IfOk res (λ now. called classes t a v (map value_view done ++ value_view w ∷ []) es ≡ rest classes now new)
passed_on classes res t new a v w done items es is h =
    let e : map value_view items ≡ map value_view done ++ value_view w ∷ [] = rw (is, map-append) refl in
    let P : List (Value ℕ) → Type 0 = λ vs. IfOk res (λ now. called classes t a v vs es ≡ rest classes now new) in subst P e h

pub first_arg : (classes : Classes) (t : Trial) (a : ℕ) (v : Value ℕ) (done : List (Value ℕ)) (e : Expr) (es : Exprs) →
    called classes t a v done (expr e es) ≡ ev classes e (place_of t) >>= λ w. (ev_all classes es (place_of t) >>= λ ws. demand_of a v (done ++ w ∷ ws)) >>= resumed classes t
first_arg classes t a v done e es =
    let first : Run ℕ (Value ℕ) = ev classes e (place_of t) in
    let others : Run ℕ (List (Value ℕ)) = ev_all classes es (place_of t) in
    let call : List (Value ℕ) → Run ℕ (Value ℕ) = λ ws. demand_of a v (done ++ ws) in
    let list : Value ℕ → Run ℕ (List (Value ℕ)) = λ w. others >>= λ ws. Gives (w ∷ ws) in
    let here : Value ℕ → Run ℕ (Value ℕ) = λ w. others >>= λ ws. call (w ∷ ws) in
    let each : (λ (w : Value ℕ). list w >>= call) ≡ here = fun_ext (λ w. regroup others (λ ws. Gives (w ∷ ws)) call) in
    ap (λ r. r >>= resumed classes t) (regroup first list call ∙ ap (λ k. first >>= k) each) ∙ regroup first here (resumed classes t)

-- the first argument of a call, for which none is there yet
pub first_of_all : (classes : Classes) (t : Trial) (a : ℕ) (v : Value ℕ) (done : List (Value ℕ)) (e : Expr) (es : Exprs) → done ≡ [] →
    called classes t a v [] (expr e es) ≡ ev classes e (place_of t) >>= λ w. (ev_all classes es (place_of t) >>= λ ws. demand_of a v (done ++ w ∷ ws)) >>= resumed classes t
first_of_all classes t a v done e es none = rw none (first_arg classes t a v [] e es)

pub first_element : (classes : Classes) (t : Trial) (f : Fold) (e : Expr) (n : ℕ) (ns : List ℕ) →
    gone_over classes t f e (n ∷ ns) ≡ ev classes e (inside (place_of t) n) >>= λ v. settled classes f e (place_of t) n ns v >>= resumed classes t
first_element classes t fold.Exists e n ns = regroup (ev classes e (inside (place_of t) n)) (settled classes fold.Exists e (place_of t) n ns) (resumed classes t)
first_element classes t fold.First e n ns = regroup (ev classes e (inside (place_of t) n)) (settled classes fold.First e (place_of t) n ns) (resumed classes t)
first_element classes t (fold.Sum total) e n ns = regroup (ev classes e (inside (place_of t) n)) (settled classes (fold.Sum total) e (place_of t) n ns) (resumed classes t)

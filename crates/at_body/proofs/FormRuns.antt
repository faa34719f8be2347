-- A formula under way goes as far as the evaluation of its instance.
use Rattle.std.proofs.Common.{◌≡◌, ◌<◌, ◌≤◌, ◌+◌, ℕ, Bool, true, false, not, cond, ◌&&◌, List, [], ◌∷◌, ◌++◌, map, length, Option, Some, None, refl, ap, sym, ◌∙◌, subst, Result, Ok, Err, IfOk, Bor, append_assoc, append-nil, arith}
use Rattle.std.specs.Global.{Box}
use Rattle.std.proofs.lemmas.List.{map-append}
use Rattle.at_body.specs.declared.todo.Asking.{Asking}
use Rattle.at_body.specs.declared.todo.Now.TheVariants.{Enter}
use Rattle.at_body.specs.declared.value.Value.{Value as ValueCode}
use Rattle.at_model.specs.Bodies.{Expr, Exprs, Choose, Call, Exists, expr, node_of, demand_of}
use Rattle.at_model.specs.Follow.{Reached, Ends, Stops, Waits, follow}
use Rattle.at_model.specs.Run.{Value, Instance, Ref, Location, Contents, Slot, Null, Run, Gives, Fails, Looks, Demands, ◌>>=◌}
use Rattle.at_model.specs.Rules.{Rules, start_of}
use Rattle.at_model.specs.of_fixpoints.Formulas.{Formula, Known, Asks, is_surely, is_known_as, joined, turned, starts_from, demanded, two_sides}
use Rattle.at_rules.specs.Bodies.{body_view, bodies_view}
use Rattle.at_rules.specs.declared.body.Body.{Body}
use Rattle.at_body.specs.declared.forming.Forming.{Forming}
use Rattle.at_body.specs.declared.forming.Progress.{Progress}
use Rattle.at_body.specs.declared.task.Purpose.{Purpose}
use Rattle.at_body.specs.declared.task.Purpose.TheVariants as purpose
use Rattle.at_body.specs.declared.task.Task.{Task}
use Rattle.at_body.specs.declared.task.Task.TheVariants.{Right, Join, Element}
use Rattle.at_body.specs.declared.task.Doing.{Doing}
use Rattle.at_body.specs.declared.task.Doing.TheVariants.{Form}
use Rattle.at_body.specs.declared.trial.Step.{Step}
use Rattle.at_body.specs.declared.trial.Step.TheVariants as step
use Rattle.at_body.specs.declared.trial.Trial.{Trial}
use Rattle.at_body.specs.Values.{value_view}
use Rattle.at_body.specs.Stacked.{below}
use Rattle.at_body.specs.Starting.{formula_at}
use Rattle.at_body.specs.Standing.{Place, inside}
use Rattle.at_body.specs.Pieces.{HasTop, together, top_of}
use Rattle.at_body.specs.Rest.{ev, ev_all}
use Rattle.at_body.specs.Rest as trial
use Rattle.at_body.specs.Forms.{CarriesOn, GoesOn, formed, among, asking, put_to, decided, onward, place_of, carried, completed, used, rest, stepped, called, asked_of, gone_over, folded, followed, joining, load, settled, told, weight}
use Rattle.at_body.proofs.Runs.{fun_ext, regroup, to_its_end}
use Rattle.at_body.proofs.Piled.{joined_known, joined_else}

-- one evaluation behind another, by where that one has come to
abbrev continued : {A B : Type 0} → Contents ℕ → List (Location ℕ) → (A → Run ℕ B) → Reached ℕ A → Reached ℕ B × List (Location ℕ)
continued look end k (Ends a) = follow look end (k a)
continued look end k (Stops f) = (Stops f, end)
continued look end k (Waits j h) = (Waits j (λ v. h v >>= k), end)

behind : {A B : Type 0} (look : Contents ℕ) (seen : List (Location ℕ)) (r : Run ℕ A) (k : A → Run ℕ B) →
    follow look seen (r >>= k) ≡ continued look (follow look seen r).1 k (follow look seen r).0
behind look seen (Gives a) k = refl
behind look seen (Fails f) k = refl
behind look seen (Looks l h) k = behind look (seen ++ l ∷ []) (h (look l)) k
behind look seen (Demands j h) k = refl

step_continued : (rules : Rules) (look : Contents ℕ) (t : Forming) (u : Purpose) (s : Step) (new : Trial) →
    continued look new.reads (used rules u t) (trial.reached rules.classes s new) ≡ follow look new.reads (rest rules (stepped u s) (record t { trial = new }))
step_continued rules look t u (step.Value v) new = refl
step_continued rules look t u (step.Fault k) new = refl
step_continued rules look t u (step.Need j) new = refl

-- the trial has come to a step: what follows goes on from there
pub evaluated : (rules : Rules) (look : Contents ℕ) (t : Forming) (u : Purpose) (r : Run ℕ (Value ℕ)) (s : Step) (new : Trial) →
    follow look t.trial.reads r ≡ (trial.reached rules.classes s new, new.reads) →
    follow look t.trial.reads (r >>= used rules u t) ≡ follow look new.reads (rest rules (stepped u s) (record t { trial = new }))
evaluated rules look t u r s new h =
    behind look t.trial.reads r (used rules u t)
    ∙ ap (λ (p : Reached ℕ (Value ℕ) × List (Location ℕ)). continued look p.1 (used rules u t) p.0) h
    ∙ step_continued rules look t u s new

module _ (rules : Rules) where
  -- two sides
  pub sides_shape : (t : Forming) (c p : Bool) (a : Expr) (b : Bor Body) →
      two_sides c (formed rules t.start p a (place_of t)) (formed rules t.start p (body_view b.now) (place_of t)) >>= carried rules t
      ≡ formed rules t.start p a (place_of t) >>= carried rules (record t { tasks = Right c p b ∷ t.tasks })
  sides_shape t c p a b =
      regroup (formed rules t.start p a (place_of t)) (λ f. decided (not c) c f (formed rules t.start p (body_view b.now) (place_of t))) (carried rules t)

  -- the sides of a choice, and the elements of a node
  pub choice_shape : (t : Forming) (p : Bool) (e : Expr) (a b : Bor Body) →
      formed rules t.start p (Choose e (body_view a.now) (body_view b.now)) (place_of t) >>= carried rules t
      ≡ ev rules.classes e (place_of t) >>= used rules (purpose.Choose p a b) t
  choice_shape t p e a b = regroup (ev rules.classes e (place_of t)) (put_to rules t.start (purpose.Choose p a b) (place_of t)) (carried rules t)

  pub exists_shape : (t : Forming) (p : Bool) (e : Expr) (part : ℕ) (b : Bor Body) →
      formed rules t.start p (Exists e part (body_view b.now)) (place_of t) >>= carried rules t
      ≡ ev rules.classes e (place_of t) >>= used rules (purpose.Elements p part b) t
  exists_shape t p e part b = regroup (ev rules.classes e (place_of t)) (put_to rules t.start (purpose.Elements p part b) (place_of t)) (carried rules t)

  -- a call that is left in the formula
  pub call_left : (t : Forming) (p : Bool) (e : Expr) (a : ℕ) (es : Bor (List Body)) → p && starts_from t.start (start_of rules a) ≡ true →
      formed rules t.start p (Call e a (bodies_view es.now)) (place_of t) >>= carried rules t
      ≡ ev rules.classes e (place_of t) >>= used rules (purpose.Arguments a es) t
  call_left t p e a es is =
      let here : (i : Instance ℕ) → i.attribute ≡ a → demanded (start_of rules) t.start p i ≡ Gives (Asks i) =
      λ i same. ap (λ b. cond b (Gives (Asks i)) (Demands i (λ v. Gives (Known (turned p v))))) (ap (λ x. p && starts_from t.start (start_of rules x)) same ∙ is) in
      let ask : (v : Value ℕ) (vs : List (Value ℕ)) → node_of v >>= (λ n. demanded (start_of rules) t.start p (record { node = n; attribute = a; arguments = vs })) ≡ asking a v vs =
      λ v vs. ap (λ (k : ℕ → Run ℕ (Formula ℕ)). node_of v >>= k) (fun_ext (λ n. here (record { node = n; attribute = a; arguments = vs }) refl)) in
      let all : (v : Value ℕ) → ev_all rules.classes (bodies_view es.now) (place_of t) >>= (λ vs. node_of v >>= (λ n. demanded (start_of rules) t.start p (record { node = n; attribute = a; arguments = vs })))
      ≡ put_to rules t.start (purpose.Arguments a es) (place_of t) v =
      λ v. ap (λ (k : List (Value ℕ) → Run ℕ (Formula ℕ)). ev_all rules.classes (bodies_view es.now) (place_of t) >>= k) (fun_ext (λ vs. ask v vs)) in
      ap (λ (k : Value ℕ → Run ℕ (Formula ℕ)). (ev rules.classes e (place_of t) >>= k) >>= carried rules t) (fun_ext all)
      ∙ regroup (ev rules.classes e (place_of t)) (put_to rules t.start (purpose.Arguments a es) (place_of t)) (carried rules t)

  -- a call that is demanded is evaluated as any other expression
  pub call_demanded : (b p : Bool) (e : Expr) (a : ℕ) (es : Exprs) (place : Place) → p && starts_from b (start_of rules a) ≡ false →
      formed rules b p (Call e a es) place ≡ ev rules.classes (Call e a es) place >>= λ v. Gives (Known (turned p v))
  call_demanded b p e a es place is =
      let last : Value ℕ → Run ℕ (Formula ℕ) = λ v. Gives (Known (turned p v)) in
      let here : (i : Instance ℕ) → i.attribute ≡ a → demanded (start_of rules) b p i ≡ Demands i last =
      λ i same. ap (λ c. cond c (Gives (Asks i)) (Demands i last)) (ap (λ x. p && starts_from b (start_of rules x)) same ∙ is) in
      let ask : (v : Value ℕ) (vs : List (Value ℕ)) → node_of v >>= (λ n. demanded (start_of rules) b p (record { node = n; attribute = a; arguments = vs })) ≡ demand_of a v vs >>= last =
      λ v vs. ap (λ (k : ℕ → Run ℕ (Formula ℕ)). node_of v >>= k) (fun_ext (λ n. here (record { node = n; attribute = a; arguments = vs }) refl))
      ∙ sym (regroup (node_of v) (λ n. Demands (record { node = n; attribute = a; arguments = vs }) Gives) last) in
      let all : (v : Value ℕ) → ev_all rules.classes es place >>= (λ vs. node_of v >>= (λ n. demanded (start_of rules) b p (record { node = n; attribute = a; arguments = vs })))
      ≡ (ev_all rules.classes es place >>= demand_of a v) >>= last =
      λ v. ap (λ (k : List (Value ℕ) → Run ℕ (Formula ℕ)). ev_all rules.classes es place >>= k) (fun_ext (λ vs. ask v vs))
      ∙ sym (regroup (ev_all rules.classes es place) (demand_of a v) last) in
      ap (λ (k : Value ℕ → Run ℕ (Formula ℕ)). ev rules.classes e place >>= k) (fun_ext all)
      ∙ sym (regroup (ev rules.classes e place) (λ v. ev_all rules.classes es place >>= demand_of a v) last)

  -- what is evaluated as ever
  pub as_ever : (t : Forming) (p : Bool) (e : Expr) → formed rules t.start p e (place_of t) ≡ ev rules.classes e (place_of t) >>= (λ v. Gives (Known (turned p v))) →
      formed rules t.start p e (place_of t) >>= carried rules t ≡ ev rules.classes e (place_of t) >>= used rules (purpose.Formula p) t
  as_ever t p e is =
      ap (λ (r : Run ℕ (Formula ℕ)). r >>= carried rules t) is
      ∙ regroup (ev rules.classes e (place_of t)) (put_to rules t.start (purpose.Formula p) (place_of t)) (carried rules t)

  -- the next element
  pub element_shape : (t : Forming) (p : Bool) (e : Bor Body) (n : ℕ) (ns : Bor (List ℕ)) →
      gone_over rules t p (body_view e.now) (n ∷ ns.now)
      ≡ formed rules t.start p (body_view e.now) (inside (place_of t) n) >>= carried rules (record t { bound = n ∷ t.bound; tasks = Element p e ns ∷ t.tasks })
  element_shape t p e n ns =
      regroup (formed rules t.start p (body_view e.now) (inside (place_of t) n)) (λ f. decided p (not p) f (among rules t.start p (body_view e.now) (place_of t) ns.now)) (carried rules t)

  -- a value on top leaves the other side to decide
  pub kept_known : (t : Forming) (c : Bool) (r : Run ℕ (Formula ℕ)) → is_known_as c (top_of t.pile) ≡ true →
      (r >>= λ g. Gives (joined c (top_of t.pile) g)) >>= onward rules t.start t.tasks (below t.pile) (place_of t) ≡ r >>= carried rules (record t { pile = below t.pile })
  kept_known t c r is =
      ap (λ (k : Formula ℕ → Run ℕ (Formula ℕ)). (r >>= k) >>= onward rules t.start t.tasks (below t.pile) (place_of t)) (fun_ext (λ g. ap Gives (joined_known c (top_of t.pile) g is)))
      ∙ ap (λ (s : Run ℕ (Formula ℕ)). s >>= onward rules t.start t.tasks (below t.pile) (place_of t)) (to_its_end r)

  joins_on : (b c : Bool) (ts : List Task) (fs : List (Formula ℕ)) (place : Place) (g : Formula ℕ) → HasTop fs → is_known_as c (top_of fs) ≡ false →
      onward rules b ts (below fs) place (joined c (top_of fs) g) ≡ onward rules b (Join c ∷ ts) fs place g
  joins_on b c ts [] place g top is = absurd cc
  joins_on b c ts (f ∷ fs) place g top is = ap (onward rules b ts fs place) (joined_else c f g is)

  -- else the two are put together
  pub kept_else : (t : Forming) (c : Bool) (r : Run ℕ (Formula ℕ)) → HasTop t.pile → is_known_as c (top_of t.pile) ≡ false →
      (r >>= λ g. Gives (joined c (top_of t.pile) g)) >>= onward rules t.start t.tasks (below t.pile) (place_of t) ≡ r >>= carried rules (record t { tasks = Join c ∷ t.tasks })
  kept_else t c r top is =
      regroup r (λ g. Gives (joined c (top_of t.pile) g)) (onward rules t.start t.tasks (below t.pile) (place_of t))
      ∙ ap (λ (k : Formula ℕ → Run ℕ (Formula ℕ)). r >>= k) (fun_ext (λ g. joins_on t.start c t.tasks t.pile (place_of t) g top is))

  -- where the formula on top doesn't decide, it is put together with what follows
  pub settled_else : (t : Forming) (d c : Bool) (r : Run ℕ (Formula ℕ)) → is_surely d (top_of t.pile) ≡ false →
      settled rules t d c r ≡ (r >>= λ g. Gives (joined c (top_of t.pile) g)) >>= onward rules t.start t.tasks (below t.pile) (place_of t)
  settled_else t d c r is =
      ap (λ b. cond b (Gives (top_of t.pile)) (r >>= λ g. Gives (joined c (top_of t.pile) g)) >>= onward rules t.start t.tasks (below t.pile) (place_of t)) is

  -- a task on top of the others
  pub right_done : (t : Forming) (c p : Bool) (e : Bor Body) → HasTop t.pile →
      completed rules t.start (Right c p e ∷ t.tasks) t.pile (place_of t) ≡ settled rules t (not c) c (formed rules t.start p (body_view e.now) (place_of t))
  right_done t c p e top = ap (λ fs. completed rules t.start (Right c p e ∷ t.tasks) fs (place_of t)) top

  pub element_done : (t : Forming) (p : Bool) (e : Bor Body) (ns : Bor (List ℕ)) (bound : List ℕ) → bound ≡ below t.bound → HasTop t.pile →
      completed rules t.start (Element p e ns ∷ t.tasks) t.pile (place_of t)
      ≡ settled rules (record t { bound = bound }) p (not p) (among rules t.start p (body_view e.now) (place_of (record t { bound = bound })) ns.now)
  element_done t p e ns bound is top = rw is (ap (λ fs. completed rules t.start (Element p e ns ∷ t.tasks) fs (place_of t)) top)

-- one argument more
pub one_argument : (rules : Rules) (t : Forming) (a : ℕ) (v w : Value ℕ) (done : List (Value ℕ)) (es : Exprs) →
    (ev_all rules.classes es (place_of t) >>= λ ws. asking a v (done ++ w ∷ ws)) >>= carried rules t ≡ called rules t a v (done ++ w ∷ []) es
one_argument rules t a v w done es =
    let e : (λ (ws : List (Value ℕ)). asking a v (done ++ w ∷ ws)) ≡ (λ ws. asking a v ((done ++ w ∷ []) ++ ws)) = fun_ext (λ ws. ap (asking a v) (sym (append_assoc done (w ∷ []) ws))) in
    ap (λ (k : List (Value ℕ) → Run ℕ (Formula ℕ)). (ev_all rules.classes es (place_of t) >>= k) >>= carried rules t) e

-- calls, by what the body is
pub call_evaluated : (rules : Rules) (t : Forming) (p : Bool) (e receiver : Expr) (a : ℕ) (es : Bor (List Body)) → e ≡ Call receiver a (bodies_view es.now) → p ≡ true → starts_from t.start (start_of rules a) ≡ true →
    formed rules t.start p e (place_of t) >>= carried rules t ≡ ev rules.classes receiver (place_of t) >>= used rules (purpose.Arguments a es) t
call_evaluated rules t p e receiver a es shape is from =
    ap (λ x. formed rules t.start p x (place_of t) >>= carried rules t) shape
    ∙ call_left rules t p receiver a es (ap (λ b. b && starts_from t.start (start_of rules a)) is ∙ from)

pub as_demanded : (rules : Rules) (t : Forming) (p : Bool) (e receiver : Expr) (a : ℕ) (es : Exprs) → e ≡ Call receiver a es → p && starts_from t.start (start_of rules a) ≡ false →
    formed rules t.start p e (place_of t) >>= carried rules t ≡ ev rules.classes e (place_of t) >>= used rules (purpose.Formula p) t
as_demanded rules t p e receiver a es shape is =
    as_ever rules t p e (ap (λ x. formed rules t.start p x (place_of t)) shape ∙ call_demanded rules t.start p receiver a es (place_of t) is ∙ ap (λ x. ev rules.classes x (place_of t) >>= (λ v. Gives (Known (turned p v)))) (sym shape))

-- what means the same, with no less room, is carried on by the same
pub carried_by : {E : Type 0} (res : Result Doing E) (q r : Rules → Run ℕ (Formula ℕ)) (n m : ℕ) (s t u : Forming) →
    ((rules : Rules) → q rules ≡ r rules) → n + load s.tasks ≤ m + load t.tasks → s.trial.reads ≡ t.trial.reads →
    IfOk res (λ d. CarriesOn r n s d u) → IfOk res (λ d. CarriesOn q m t d u)
carried_by (Ok d) q r n m s t u same room reads h = record {
  same = λ rules. same rules ∙ h.same rules;
  less = omega (arith, h.less, room);
  reads = h.reads ∙ reads;
}
carried_by (Err x) q r n m s t u same room reads h = tt

-- what goes over the other elements carries on behind an element
pub carried_over : {E : Type 0} (res : Result Doing E) (q r : Rules → Run ℕ (Formula ℕ)) (most : ℕ) (s t u : Forming) →
    ((rules : Rules) → q rules ≡ r rules) → load s.tasks ≤ 1 + load t.tasks → s.trial.reads ≡ t.trial.reads →
    ((rules : Rules) → IfOk res (λ d. r rules ≡ rest rules d u)) →
    IfOk res (λ d. weight d u + 2 ≤ most + load s.tasks) → IfOk res (λ d. u.trial.reads ≡ s.trial.reads) →
    IfOk res (λ d. CarriesOn q most t d u)
carried_over (Ok d) q r most s t u same room reads means less looked = record {
  same = λ rules. same rules ∙ means rules;
  less = omega (arith, less, room);
  reads = looked ∙ reads;
}
carried_over (Err x) q r most s t u same room reads means less looked = tt

-- both sides
pub sides_put : {E : Type 0} (rules : Rules) (res : Result Doing E) (t new : Forming) (c p : Bool) (e : Expr) (l r : Bor Body) →
    IfOk res (λ d. (d ≡ Form p l) × (new ≡ record t { tasks = Right c p r ∷ t.tasks })) →
    formed rules t.start p e (place_of t) ≡ two_sides c (formed rules t.start p (body_view l.now) (place_of t)) (formed rules t.start p (body_view r.now) (place_of t)) →
    IfOk res (λ d. formed rules t.start p e (place_of t) >>= carried rules t ≡ rest rules d new)
sides_put rules (Ok d) t new c p e l r (is, becomes) shape = rw (is, becomes) (ap (λ (x : Run ℕ (Formula ℕ)). x >>= carried rules t) shape ∙ sides_shape rules t c p (body_view l.now) r)
sides_put rules (Err x) t new c p e l r h shape = tt

-- the arguments of a call that is left in the formula
pub argument_shape : (rules : Rules) (t : Forming) (call : Box Asking) (b : Bor Body) (bs : Bor (List Body)) →
    called rules t call.value.attribute (Ref call.value.node) (map value_view call.value.done.items) (expr (body_view b.now) (bodies_view bs.now))
    ≡ ev rules.classes (body_view b.now) (place_of t) >>= used rules (purpose.Argument call bs) t
argument_shape rules t call b bs =
    let one : Run ℕ (Value ℕ) = ev rules.classes (body_view b.now) (place_of t) in
    let others : Run ℕ (List (Value ℕ)) = ev_all rules.classes (bodies_view bs.now) (place_of t) in
    let ask : List (Value ℕ) → Run ℕ (Formula ℕ) = λ ws. asking call.value.attribute (Ref call.value.node) (map value_view call.value.done.items ++ ws) in
    ap (λ (r : Run ℕ (Formula ℕ)). r >>= carried rules t) (
    regroup one (λ w. others >>= λ ws. Gives (w ∷ ws)) ask
    ∙ ap (λ (k : Value ℕ → Run ℕ (Formula ℕ)). one >>= k) (fun_ext (λ w. regroup others (λ ws. Gives (w ∷ ws)) ask))
    )
    ∙ regroup one (put_to rules t.start (purpose.Argument call bs) (place_of t)) (carried rules t)

pub first_shape : (rules : Rules) (t : Forming) (call : Box Asking) (b : Bor Body) (bs : Bor (List Body)) (a : ℕ) (node : Option ℕ) (all : List Body) → all ≡ b.now ∷ bs.now →
    call.value.attribute ≡ a → call.value.node ≡ node → call.value.done.items ≡ [] →
    called rules t a (Ref node) [] (bodies_view all) ≡ ev rules.classes (body_view b.now) (place_of t) >>= used rules (purpose.Argument call bs) t
first_shape rules t call b bs a node all are e f g =
    ap (λ es. called rules t a (Ref node) [] (bodies_view es)) are
    ∙ ap (λ x. called rules t x (Ref node) [] (expr (body_view b.now) (bodies_view bs.now))) (sym e)
    ∙ ap (λ n. called rules t call.value.attribute (Ref n) [] (expr (body_view b.now) (bodies_view bs.now))) (sym f)
    ∙ ap (λ (vs : List ValueCode). called rules t call.value.attribute (Ref call.value.node) (map value_view vs) (expr (body_view b.now) (bodies_view bs.now))) (sym g)
    ∙ argument_shape rules t call b bs

pub no_argument : (rules : Rules) (t : Forming) (a : ℕ) (v : Value ℕ) (done vs : List (Value ℕ)) (bs : List Body) → length bs ≡ 0 → vs ≡ done →
    called rules t a v done (bodies_view bs) ≡ asked_of rules t a v vs
no_argument rules t a v done vs [] e is = ap (asked_of rules t a v) (append-nil done ∙ sym is)
no_argument rules t a v done vs (b ∷ bs) e is = absurd (omega (arith, e))

-- once all are there
pub all_there : (rules : Rules) (t : Forming) (call it : Asking) (vs : List ValueCode) (bs : List Body) → length bs ≡ 0
    → it ≡ call → vs ≡ it.done.items →
    called rules t call.attribute (Ref call.node) (map value_view call.done.items) (bodies_view bs)
    ≡ asked_of rules t it.attribute (Ref it.node) (map value_view vs)
all_there rules t call it vs bs none e f =
    no_argument rules t call.attribute (Ref call.node) (map value_view call.done.items)
    (map value_view call.done.items) bs none refl
    ∙ ap (λ (x : Asking). asked_of rules t x.attribute (Ref x.node) (map value_view x.done.items)) (sym e)
    ∙ ap (λ (ws : List ValueCode). asked_of rules t it.attribute (Ref it.node) (map value_view ws)) (sym f)

-- the right side, and the elements behind one, where the formula on top doesn't decide
pub kept_right : (rules : Rules) (t new : Forming) (d c p : Bool) (e : Bor Body) → is_surely d (top_of t.pile) ≡ false → new ≡ record t { tasks = new.tasks; pile = new.pile } →
    ((r : Run ℕ (Formula ℕ)) → joining rules t c r ≡ followed rules new r) →
    settled rules t d c (formed rules t.start p (body_view e.now) (place_of t)) ≡ formed rules new.start p (body_view e.now) (place_of new) >>= carried rules new
kept_right rules t new d c p e off stays same =
    settled_else rules t d c (formed rules t.start p (body_view e.now) (place_of t)) off
    ∙ same (formed rules t.start p (body_view e.now) (place_of t))
    ∙ ap (λ (x : Forming). formed rules x.start p (body_view e.now) (place_of x) >>= carried rules new) (sym stays)

pub kept_among : (rules : Rules) (t new : Forming) (d c p : Bool) (e : Bor Body) (ns : List ℕ) → is_surely d (top_of t.pile) ≡ false → new ≡ record t { tasks = new.tasks; pile = new.pile } →
    ((r : Run ℕ (Formula ℕ)) → joining rules t c r ≡ followed rules new r) →
    settled rules t d c (among rules t.start p (body_view e.now) (place_of t) ns) ≡ gone_over rules new p (body_view e.now) ns
kept_among rules t new d c p e ns off stays same =
    settled_else rules t d c (among rules t.start p (body_view e.now) (place_of t) ns) off
    ∙ same (among rules t.start p (body_view e.now) (place_of t) ns)
    ∙ ap (λ (x : Forming). among rules x.start p (body_view e.now) (place_of x) ns >>= carried rules new) (sym stays)

-- what an evaluation comes to that is told that it does
pub goes_on : {E : Type 0} (look : Contents ℕ) (rules : Rules) (res : Result Doing E) (q : Run ℕ (Formula ℕ))
    (r : Rules → Run ℕ (Formula ℕ)) (most : ℕ) (t u : Forming) → q ≡ r rules → IfOk res (λ d. CarriesOn r most t d u) →
    IfOk res (λ d. GoesOn look rules t.trial.reads q d u)
goes_on look rules (Ok d) q r most t u e h =
    ap (follow look t.trial.reads) (e ∙ h.same rules) ∙ ap (λ ls. follow look ls (rest rules d u)) (sym h.reads)
goes_on look rules (Err x) q r most t u e h = tt

-- and no more is left to do
pub lighter_by : {E : Type 0} (res : Result Doing E) (r : Rules → Run ℕ (Formula ℕ)) (most n : ℕ) (t u : Forming) →
    most ≤ n → IfOk res (λ d. CarriesOn r most t d u) → IfOk res (λ d. weight d u < n + load t.tasks)
lighter_by (Ok d) r most n t u room h = omega (arith, h.less, room)
lighter_by (Err x) r most n t u room h = tt

-- the elements of a node that is looked at
pub elements_gone : {E : Type 0} (rules : Rules) (look : Contents ℕ) (res : Result Doing E) (t new : Forming) (p : Bool) (e : Expr) (part n : ℕ) (ns : List ℕ) (mid : Trial) →
    mid.reads ≡ t.trial.reads ++ Slot n part ∷ [] → ns ≡ look (Slot n part) →
    IfOk res (λ d. gone_over rules (record t { trial = mid }) p e ns ≡ rest rules d new) → IfOk res (λ d. new.trial.reads ≡ mid.reads) →
    IfOk res (λ d. follow look t.trial.reads (folded rules t p part e (Some n)) ≡ follow look new.trial.reads (rest rules d new))
elements_gone rules look (Ok d) t new p e part n ns mid is are h same =
    let s : follow look t.trial.reads (folded rules t p part e (Some n)) ≡ follow look mid.reads (gone_over rules t p e ns) = rw (is, are) refl in
    s ∙ ap (follow look mid.reads) h ∙ ap (λ l. follow look l (rest rules d new)) (sym same)
elements_gone rules look (Err x) t new p e part n ns mid is are h same = tt

-- a trial that stands at the place evaluates the expression
pub alone_there : (rules : Rules) (look : Contents ℕ) (seen : List (Location ℕ)) (b : Bor Body) (new : Trial) (place : Place) → trial.place_of new ≡ place → new.todo ≡ [] →
    follow look seen (ev rules.classes (body_view b.now) place) ≡ follow look seen (trial.rest rules.classes (Enter b) new)
alone_there rules look seen b new place same idle =
    let r : Place → Run ℕ (Value ℕ) = ev rules.classes (body_view b.now) in
    let whole : trial.rest rules.classes (Enter b) new ≡ r place =
    ap (λ q. r q >>= trial.after rules.classes new.todo q) same ∙ ap (λ ts. r place >>= trial.after rules.classes ts place) idle ∙ to_its_end (r place) in
    ap (follow look seen) (sym whole)

pub evaluated_at : (rules : Rules) (look : Contents ℕ) (t : Forming) (u : Purpose) (b : Bor Body) (s : Step) (stood new : Trial) (doing : Doing) → trial.place_of stood ≡ place_of t → stood.todo ≡ [] → stood.reads ≡ t.trial.reads →
    follow look stood.reads (trial.rest rules.classes (Enter b) stood) ≡ (trial.reached rules.classes s new, new.reads) → doing ≡ stepped u s →
    follow look t.trial.reads (ev rules.classes (body_view b.now) (place_of t) >>= used rules u t) ≡ follow look new.reads (rest rules doing (record t { trial = new }))
evaluated_at rules look t u b s stood new doing same idle still found is =
    evaluated rules look t u (ev rules.classes (body_view b.now) (place_of t)) s new
    (alone_there rules look t.trial.reads b stood (place_of t) same idle ∙ ap (λ l. follow look l (trial.rest rules.classes (Enter b) stood)) (sym still) ∙ found)
    ∙ ap (λ d. follow look new.reads (rest rules d (record t { trial = new }))) (sym is)

-- one argument more is there
pub argument_passed : {E : Type 0} (res : Result Doing E) (most : ℕ) (t new : Forming) (a : ℕ) (v : Value ℕ)
    (w : ValueCode) (done items : List ValueCode) (es : Exprs) → items ≡ done ++ w ∷ [] →
    IfOk res (λ d. CarriesOn (λ rules. called rules t a v (map value_view items) es) most t d new) →
    IfOk res (λ d. CarriesOn (λ rules. called rules t a v (map value_view done ++ value_view w ∷ []) es) most t d new)
argument_passed res most t new a v w done items es is h =
    let e : map value_view items ≡ map value_view done ++ value_view w ∷ [] = rw (is, map-append) refl in
    let P : List (Value ℕ) → Type 0 = λ vs. IfOk res (λ d. CarriesOn (λ rules. called rules t a v vs es) most t d new) in
    subst P e h

-- a formula that waits is told a value
apart : (rules : Rules) (t : Forming) (u : Purpose) (s : Step) (new : Trial) (after : Option Purpose) →
    rest rules (stepped u s) (record t { trial = new }) ≡ rest rules (stepped u s) (record t { purpose = after; trial = new })
apart rules t u (step.Value v) new after = refl
apart rules t u (step.Fault k) new after = refl
apart rules t u (step.Need j) new after = refl

pub told_found : {E : Type 0} (res : Result Progress E) (rules : Rules) (look : Contents ℕ) (t : Forming) (v : Value ℕ) (u : Purpose) (s : Step) (new : Trial) (doing : Doing) (after : Option Purpose)
    (end_of : Progress → Reached ℕ (Formula ℕ) × List (Location ℕ)) → t.purpose ≡ Some u →
    follow look t.trial.reads (trial.resumed rules.classes t.trial v) ≡ (trial.reached rules.classes s new, new.reads) → doing ≡ stepped u s →
    IfOk res (λ p. follow look new.reads (rest rules doing (record t { purpose = after; trial = new })) ≡ end_of p) → IfOk res (λ p. follow look t.trial.reads (told rules t v) ≡ end_of p)
told_found (Ok p) rules look t v u s new doing after end_of has found made h =
    let its : told rules t v ≡ trial.resumed rules.classes t.trial v >>= used rules u t =
    ap (λ o. elim o as (λ _. Run ℕ (Formula ℕ)) [ None ↦ Fails Null | Some w ↦ trial.resumed rules.classes t.trial v >>= used rules w t ]) has in
    ap (follow look t.trial.reads) its
    ∙ evaluated rules look t u (trial.resumed rules.classes t.trial v) s new found
    ∙ ap (follow look new.reads) (apart rules t u s new after)
    ∙ ap (λ d. follow look new.reads (rest rules d (record t { purpose = after; trial = new }))) (sym made)
    ∙ h
told_found (Err x) rules look t v u s new doing after end_of has found made h = tt

-- where the equation stands, with nothing to do
begun_same : (rules : Rules) (look : Contents ℕ) (t : Forming) (s : Trial) (a : ℕ) (b : Bor Body) → start_of rules a ≡ Some t.start → place_of t ≡ trial.place_of s → t.tasks ≡ [] → t.pile ≡ [] → t.trial ≡ s →
    follow look s.reads (formula_at rules (start_of rules a) b.now (trial.place_of s)) ≡ follow look t.trial.reads (rest rules (Form true b) t)
begun_same rules look t s a b start place idle none same =
    let r : Place → Run ℕ (Formula ℕ) = formed rules t.start true (body_view b.now) in
    let whole : rest rules (Form true b) t ≡ r (place_of t) =
    ap (λ ts. r (place_of t) >>= onward rules t.start ts t.pile (place_of t)) idle ∙ to_its_end (r (place_of t)) in
    ap (λ o. follow look s.reads (formula_at rules o b.now (trial.place_of s))) start
    ∙ ap (λ q. follow look s.reads (r q)) (sym place)
    ∙ ap (follow look s.reads) (sym whole)
    ∙ ap (λ (x : Trial). follow look x.reads (rest rules (Form true b) t)) (sym same)

pub begun_found : {E : Type 0} (res : Result Progress E) (rules : Rules) (look : Contents ℕ) (t : Forming) (s : Trial) (a : ℕ) (b : Bor Body) (r : Run ℕ (Formula ℕ)) (end_of : Progress → Reached ℕ (Formula ℕ) × List (Location ℕ)) →
    start_of rules a ≡ Some t.start → place_of t ≡ trial.place_of s → t.tasks ≡ [] → t.pile ≡ [] → t.trial ≡ s → follow look [] r ≡ follow look s.reads (formula_at rules (start_of rules a) b.now (trial.place_of s)) →
    IfOk res (λ p. follow look t.trial.reads (rest rules (Form true b) t) ≡ end_of p) → IfOk res (λ p. follow look [] r ≡ end_of p)
begun_found (Ok p) rules look t s a b r end_of start place idle none same formed h = formed ∙ begun_same rules look t s a b start place idle none same ∙ h
begun_found (Err x) rules look t s a b r end_of start place idle none same formed h = tt

-- Searches under way.
use Rattle.std.proofs.Common.{◌≡◌, ◌<◌, ◌≤◌, ◌+◌, ◌*◌, arith, length, ℕ, suc, Bool, true, false, List, [], ◌∷◌, ◌++◌, Option, Some, refl, ap, sym, ◌∙◌, subst, cond, not, Bor, Result, Ok, Err, IfOk}
use Rattle.std.specs.Global.{Box}
use Rattle.std.proofs.Math.Nat.{mul-le-mul_right}
use Rattle.at_model.specs.Bodies.{Expr, SeekAny, SeekFirst, drawer_of, text_of, truth_of}
use Rattle.at_model.specs.Classes.{Classes}
use Rattle.at_model.specs.Drawers.{mark_of}
use Rattle.at_model.specs.Follow.{follow}
use Rattle.at_model.specs.Rules.{Rules, start_of}
use Rattle.at_model.specs.Run.{Contents, Drawer, Gives, Location, Ref, Run, Truth, Value, ◌>>=◌}
use Rattle.at_model.specs.of_fixpoints.Formulas.{Formula, fold_form}
use Rattle.at_class.specs.Keys.{key_view}
use Rattle.at_rules.specs.Bodies.{body_view, sought_view}
use Rattle.at_rules.specs.declared.body.Body.{Body}
use Rattle.at_rules.specs.declared.body.Lookup.{Lookup}
use Rattle.at_rules.specs.declared.body.Sought.{Sought}
use Rattle.at_rules.specs.declared.body.Sought.TheVariants as sought
use Rattle.at_body.specs.declared.candidates.Candidates.{Candidates}
use Rattle.at_body.specs.declared.forming.Forming.{Forming}
use Rattle.at_body.specs.declared.task.Doing.{Doing}
use Rattle.at_body.specs.declared.task.Purpose.TheVariants as purpose
use Rattle.at_body.specs.declared.task.Task.TheVariants as task
use Rattle.at_body.specs.declared.todo.Now.{Now}
use Rattle.at_body.specs.declared.todo.Search.{Search}
use Rattle.at_body.specs.declared.todo.Search.TheVariants as search
use Rattle.at_body.specs.declared.todo.Todo.TheVariants.{Among}
use Rattle.at_body.specs.declared.trial.Trial.{Trial}
use Rattle.at_body.specs.Forms.{among, carried, completed, decided, formed, put_to}
use Rattle.at_body.specs.Forms as form
use Rattle.at_body.specs.Pieces.{HasTop}
use Rattle.at_body.specs.Rest.{ev, gone_over, over, place_of, rest, resumed, sought_of, sought_over, used, weight}
use Rattle.at_body.specs.Rest as trial
use Rattle.at_body.specs.Seeking.{candidates, fold_of, found_by, sought_in}
use Rattle.at_body.specs.Size.{most, tests}
use Rattle.at_body.specs.Stacked.{below}
use Rattle.at_body.specs.Standing.{Place, inside, scope}
use Rattle.at_body.proofs.Entering.{first_element}
use Rattle.at_body.proofs.Runs.{regroup}

-- what is looked for is evaluated at once
pub sought_gives : {A : Type 0} (classes : Classes) (s : Sought) (p : Place) (r : Run ℕ (Value ℕ)) (k : Value ℕ → Value ℕ → Run ℕ A) →
    (r >>= λ v. ev classes (sought_view s) p >>= k v) ≡ (r >>= λ v. k v (sought_in s (scope p).names))
sought_gives classes (sought.Text text) p r k = refl
sought_gives classes (sought.Name i) p r k = refl

-- the two forms
pub any_shape : (classes : Classes) (p : Place) (e : Expr) (look : Lookup) (b : Expr) →
    ev classes (SeekAny e look.part (key_view look.key) (sought_view look.sought) b) p ≡ ev classes e p >>= sought_of classes search.Any look b p
any_shape classes p e look b =
    sought_gives classes look.sought p (ev classes e p) (λ v w. drawer_of look.part (key_view look.key) v w >>= over classes (fold_of search.Any) b p)

pub first_shape : (classes : Classes) (p : Place) (e : Expr) (look : Lookup) (b : Expr) →
    ev classes (SeekFirst e look.part (key_view look.key) (sought_view look.sought) b) p ≡ ev classes e p >>= sought_of classes search.First look b p
first_shape classes p e look b =
    sought_gives classes look.sought p (ev classes e p) (λ v w. drawer_of look.part (key_view look.key) v w >>= over classes (fold_of search.First) b p)

-- a drawer is looked at
module _ {A : Type 0} (tree : Contents ℕ) (seen : List (Location ℕ)) (look : Lookup) (n mark : ℕ) (w : Value ℕ) (k : List ℕ → Run ℕ A) where
  pub drawer_seen : (ns : List ℕ) (reads : List (Location ℕ)) → mark ≡ mark_of (text_of w) →
      reads ≡ seen ++ Drawer n look.part (key_view look.key) mark ∷ [] → ns ≡ tree (Drawer n look.part (key_view look.key) mark) →
      follow tree seen (drawer_of look.part (key_view look.key) (Ref (Some n)) w >>= k) ≡ follow tree reads (k ns)
  drawer_seen ns reads marks is are =
      ap (λ m. follow tree (seen ++ Drawer n look.part (key_view look.key) m ∷ []) (k (tree (Drawer n look.part (key_view look.key) m)))) (sym marks)
      ∙ ap (λ ls. follow tree ls (k (tree (Drawer n look.part (key_view look.key) mark)))) (sym is)
      ∙ ap (λ ms. follow tree reads (k ms)) (sym are)

-- values --------------------------------------------------------------------------------------------------------------

pub candidates_in : {E : Type 0} (classes : Classes) (tree : Contents ℕ) (res : Result Now E) (t new : Trial) (f : Search) (look : Lookup) (e : Expr) (n mark : ℕ) (ns : List ℕ) (reads : List (Location ℕ)) →
    mark ≡ mark_of (text_of (sought_in look.sought (scope (place_of t)).names)) → reads ≡ t.reads ++ Drawer n look.part (key_view look.key) mark ∷ [] →
    ns ≡ tree (Drawer n look.part (key_view look.key) mark) →
    IfOk res (λ now. gone_over classes (record t { reads = reads }) (fold_of f) e ns ≡ rest classes now new) → IfOk res (λ now. new.reads ≡ reads) →
    IfOk res (λ now. follow tree t.reads (sought_over classes t f look e (Some n)) ≡ follow tree new.reads (rest classes now new))
candidates_in classes tree (Ok now) t new f look e n mark ns reads marks is are h same =
    let w : Value ℕ = sought_in look.sought (scope (place_of t)).names in
    let one : Run ℕ (List ℕ) = drawer_of look.part (key_view look.key) (Ref (Some n)) w in
    ap (follow tree t.reads) (regroup one (over classes (fold_of f) e (place_of t)) (resumed classes t))
    ∙ drawer_seen tree t.reads look n mark w (λ ms. over classes (fold_of f) e (place_of t) ms >>= resumed classes t) ns reads marks is are
    ∙ ap (follow tree reads) h ∙ ap (λ ls. follow tree ls (rest classes now new)) (sym same)
candidates_in classes tree (Err x) t new f look e n mark ns reads marks is are h same = tt

-- the next one is bound
pub first_candidate : (classes : Classes) (t : Trial) (f : Search) (mark : ℕ) (b : Bor Body) (all others : Candidates) (n : ℕ) →
    candidates all mark ≡ n ∷ candidates others mark → gone_over classes t (fold_of f) (body_view b.now) (candidates all mark)
    ≡ ev classes (body_view b.now) (inside (place_of t) n) >>= used classes (Among f mark b others) (record t { bound = n ∷ t.bound })
first_candidate classes t f mark b all others n is =
    ap (gone_over classes t (fold_of f) (body_view b.now)) is ∙ first_element classes t (fold_of f) (body_view b.now) n (candidates others mark)

-- and bound no more
pub unbound_among : (classes : Classes) (t : Trial) (f : Search) (mark : ℕ) (b : Bor Body) (others : Candidates) (n : ℕ) (bound : List ℕ) (v : Value ℕ) → t.bound ≡ n ∷ bound →
    used classes (Among f mark b others) t v ≡ trial.decided classes (record t { bound = bound }) (fold_of f) (body_view b.now) n (candidates others mark) v
unbound_among classes t f mark b others n bound v is = ap (λ ns. used classes (Among f mark b others) (record t { bound = ns }) v) is

-- where the test is false it goes on
pub undecided : (classes : Classes) (t : Trial) (f : Search) (e : Expr) (n : ℕ) (ns : List ℕ) (v : Value ℕ) → truth_of v ≡ false →
    trial.decided classes t (fold_of f) e n ns v ≡ gone_over classes t (fold_of f) e ns
undecided classes t search.Any e n ns v off = ap (λ b. cond b (Gives (Truth true)) (over classes (fold_of search.Any) e (place_of t) ns) >>= resumed classes t) off
undecided classes t search.First e n ns v off = ap (λ b. cond b (Gives (Ref (Some n))) (over classes (fold_of search.First) e (place_of t) ns) >>= resumed classes t) off

-- where it is true that is decided
pub decided_at : (classes : Classes) (t : Trial) (f : Search) (e : Expr) (n : ℕ) (ns : List ℕ) (v : Value ℕ) → truth_of v ≡ true →
    trial.decided classes t (fold_of f) e n ns v ≡ resumed classes t (found_by f n)
decided_at classes t search.Any e n ns v is = ap (λ b. cond b (Gives (Truth true)) (over classes (fold_of search.Any) e (place_of t) ns) >>= resumed classes t) is
decided_at classes t search.First e n ns v is = ap (λ b. cond b (Gives (Ref (Some n))) (over classes (fold_of search.First) e (place_of t) ns) >>= resumed classes t) is

-- there are as many at most as a component has children
fewer_tests : (size kids : ℕ) → kids ≤ most → tests size kids ≤ tests size most
fewer_tests size kids few = one_more (kids * (size + 2)) (most * (size + 2)) (mul-le-mul_right (size + 2) few)
  where
    one_more : (a b : ℕ) → a ≤ b → 1 + a ≤ 1 + b
    one_more a b h = omega (arith, h)

bounded_by : (a b c l : ℕ) → a < b + l → b ≤ c → a < c + l + 1
bounded_by a b c l h more = omega (arith, h, more)

formed_by : (a b c l : ℕ) → a + 2 ≤ 3 * b + l → b ≤ c → a < 3 * c + 1 + l
formed_by a b c l h more = omega (arith, h, more)

pub few_less : {E : Type 0} (res : Result Now E) (new : Trial) (size kids l : ℕ) → kids ≤ most → IfOk res (λ now. weight now new < tests size kids + l) →
    IfOk res (λ now. weight now new < tests size most + l + 1)
few_less (Ok now) new size kids l few h = bounded_by (weight now new) (tests size kids) (tests size most) l h (fewer_tests size kids few)
few_less (Err x) new size kids l few h = tt

pub few_formed : {E : Type 0} (res : Result Doing E) (new : Forming) (size kids l : ℕ) → kids ≤ most → IfOk res (λ d. form.weight d new + 2 ≤ 3 * tests size kids + l) →
    IfOk res (λ d. form.weight d new < 3 * tests size most + 1 + l)
few_formed (Ok d) new size kids l few h = formed_by (form.weight d new) (tests size kids) (tests size most) l h (fewer_tests size kids few)
few_formed (Err x) new size kids l few h = tt

-- one of them takes as much as is counted for it
room : (size kids more : ℕ) → 3 * size + 3 + (3 * tests size kids + more) + 2 ≤ 3 * tests size (suc kids) + more
room size kids more = omega arith

pub next_room : (size mark more : ℕ) (all others : Candidates) (n : ℕ) → candidates all mark ≡ n ∷ candidates others mark →
    3 * size + 3 + (3 * tests size (length (candidates others mark)) + more) + 2 ≤ 3 * tests size (length (candidates all mark)) + more
next_room size mark more all others n is =
    subst (λ ns. 3 * size + 3 + (3 * tests size (length (candidates others mark)) + more) + 2 ≤ 3 * tests size (length ns) + more) (sym is)
    (room size (length (candidates others mark)) more)

-- formulas ------------------------------------------------------------------------------------------------------------

pub seek_shape : (rules : Rules) (t : Forming) (p : Bool) (e : Expr) (look : Bor Lookup) (b : Bor Body) →
    formed rules t.start p (SeekAny e look.now.part (key_view look.now.key) (sought_view look.now.sought) (body_view b.now)) (form.place_of t) >>= carried rules t
    ≡ ev rules.classes e (form.place_of t) >>= form.used rules (purpose.Under p look b) t
seek_shape rules t p e look b =
    ap (λ (r : Run ℕ (Formula ℕ)). r >>= carried rules t) (sought_gives rules.classes look.now.sought (form.place_of t) (ev rules.classes e (form.place_of t))
    (λ v w. drawer_of look.now.part (key_view look.now.key) v w >>= among rules t.start p (body_view b.now) (form.place_of t)))
    ∙ regroup (ev rules.classes e (form.place_of t)) (put_to rules t.start (purpose.Under p look b) (form.place_of t)) (carried rules t)

pub candidates_gone : {E : Type 0} (rules : Rules) (tree : Contents ℕ) (res : Result Doing E) (t new : Forming) (p : Bool) (look : Lookup) (e : Expr) (n mark : ℕ) (ns : List ℕ) (mid : Trial) →
    mark ≡ mark_of (text_of (sought_in look.sought (scope (form.place_of t)).names)) → mid.reads ≡ t.trial.reads ++ Drawer n look.part (key_view look.key) mark ∷ [] →
    ns ≡ tree (Drawer n look.part (key_view look.key) mark) →
    IfOk res (λ d. form.gone_over rules (record t { trial = mid }) p e ns ≡ form.rest rules d new) → IfOk res (λ d. new.trial.reads ≡ mid.reads) →
    IfOk res (λ d. follow tree t.trial.reads (form.sought_over rules t p look e (Some n)) ≡ follow tree new.trial.reads (form.rest rules d new))
candidates_gone rules tree (Ok d) t new p look e n mark ns mid marks is are h same =
    let w : Value ℕ = sought_in look.sought (scope (form.place_of t)).names in
    let one : Run ℕ (List ℕ) = drawer_of look.part (key_view look.key) (Ref (Some n)) w in
    ap (follow tree t.trial.reads) (regroup one (among rules t.start p e (form.place_of t)) (carried rules t))
    ∙ drawer_seen tree t.trial.reads look n mark w (λ ms. among rules t.start p e (form.place_of t) ms >>= carried rules t) ns mid.reads marks is are
    ∙ ap (follow tree mid.reads) h ∙ ap (λ ls. follow tree ls (form.rest rules d new)) (sym same)
candidates_gone rules tree (Err x) t new p look e n mark ns mid marks is are h same = tt

pub candidate_shape : (rules : Rules) (t : Forming) (p : Bool) (mark : ℕ) (e : Bor Body) (n : ℕ) (all : Candidates) (others : Box Candidates) →
    candidates all mark ≡ n ∷ candidates others.value mark → form.gone_over rules t p (body_view e.now) (candidates all mark)
    ≡ formed rules t.start p (body_view e.now) (inside (form.place_of t) n) >>= carried rules (record t { bound = n ∷ t.bound; tasks = task.Among p mark e others ∷ t.tasks })
candidate_shape rules t p mark e n all others is =
    ap (form.gone_over rules t p (body_view e.now)) is
    ∙ regroup (formed rules t.start p (body_view e.now) (inside (form.place_of t) n)) (λ f. decided p (not p) f (among rules t.start p (body_view e.now) (form.place_of t) (candidates others.value mark))) (carried rules t)

pub candidate_done : (rules : Rules) (t : Forming) (p : Bool) (mark : ℕ) (e : Bor Body) (others : Box Candidates) (now : Candidates) (bound : List ℕ) → now ≡ others.value → bound ≡ below t.bound → HasTop t.pile →
    completed rules t.start (task.Among p mark e others ∷ t.tasks) t.pile (form.place_of t)
    ≡ form.settled rules (record t { bound = bound }) p (not p) (among rules t.start p (body_view e.now) (form.place_of (record t { bound = bound })) (candidates now mark))
candidate_done rules t p mark e others now bound same is top = rw (is, same) (ap (λ fs. completed rules t.start (task.Among p mark e others ∷ t.tasks) fs (form.place_of t)) top)

-- there is as much room for them
pub as_many : (mark size more : ℕ) (now others : Candidates) → now ≡ others →
    3 * tests size (length (candidates now mark)) + more ≤ 3 * tests size (length (candidates others mark)) + more
as_many mark size more now others same =
    subst (λ (x : Candidates). 3 * tests size (length (candidates now mark)) + more ≤ 3 * tests size (length (candidates x mark)) + more) same (omega arith)

-- What is left of a formula under way.
use Rattle.std.specs.Prelude.{◌≡◌, ◌<◌, ℕ, ◌+◌, ◌*◌, Bool, true, false, not, cond, nat_eq, List, [], ◌∷◌, ◌++◌, map, length, Option, Some, None}
use Rattle.at_model.specs.Bodies.{Expr, Exprs, truth_of, node_of, elements_of, drawer_of}
use Rattle.at_model.specs.Run.{Value, Instance, Ref, Truth, Location, Contents, Null, Run, Gives, Fails, Demands, ◌>>=◌}
use Rattle.at_model.specs.Rules.{Rules, start_of}
use Rattle.at_model.specs.Follow.{Reached, Ends, Stops, Waits, follow}
use Rattle.at_model.specs.of_fixpoints.Formulas.{Formula, Known, Asks, is_surely, joined, turned, fold_form, form}
use Rattle.at_rules.specs.Bodies.{body_view, bodies_view}
use Rattle.at_body.specs.declared.forming.Forming.{Forming}
use Rattle.at_body.specs.declared.forming.Progress.{Progress}
use Rattle.at_body.specs.declared.forming.Progress.TheVariants as progress
use Rattle.at_body.specs.declared.task.Purpose.{Purpose}
use Rattle.at_body.specs.declared.task.Purpose.TheVariants as purpose
use Rattle.at_body.specs.declared.task.Task.{Task}
use Rattle.at_body.specs.declared.task.Task.TheVariants.{Right, Join, Element, Among}
use Rattle.at_body.specs.declared.task.Doing.{Doing}
use Rattle.at_body.specs.declared.task.Doing.TheVariants.{Form, Evaluate, Use, Made, Fail, Wait}
use Rattle.at_body.specs.declared.trial.Step.{Step}
use Rattle.at_body.specs.declared.trial.Step.TheVariants as step
use Rattle.at_body.specs.Values.{value_view, fault_view}
use Rattle.at_body.specs.Size.{size, sizes, tests, most}
use Rattle.at_body.specs.Standing.{Place, scope, outside, inside}
use Rattle.at_rules.specs.declared.body.Lookup.{Lookup}
use Rattle.at_class.specs.Keys.{key_view}
use Rattle.at_body.specs.Seeking.{candidates, sought_in}
use Rattle.at_body.specs.Pieces.{together, top_of}
use Rattle.at_body.specs.Stacked.{below}
use Rattle.at_body.specs.Rest.{ev, ev_all, resumed}
use Rattle.at_body.specs.Rest as trial

-- the formula of an expression at a place, in an equation of an attribute that starts from b
abbrev pub formed : Rules → (b p : Bool) → Expr → Place → Run ℕ (Formula ℕ)
formed rules b p e place = form rules.classes nat_eq (start_of rules) b p e (scope place)

-- and over these elements
abbrev pub among : Rules → (b p : Bool) → Expr → Place → List ℕ → Run ℕ (Formula ℕ)
among rules b p e place ns = fold_form p (λ n. formed rules b p e (inside place n)) ns

-- and over those in a component that are looked for
abbrev pub sought_of : Rules → (b p : Bool) → Lookup → Expr → Place → Value ℕ → Run ℕ (Formula ℕ)
sought_of rules b p look e place v = drawer_of look.part (key_view look.key) v (sought_in look.sought (scope place).names) >>= among rules b p e place

-- an instance is left in the formula, or it is the fault `null`
abbrev pub asking : ℕ → Value ℕ → List (Value ℕ) → Run ℕ (Formula ℕ)
asking attribute v vs = node_of v >>= λ n. Gives (Asks (record { node = n; attribute = attribute; arguments = vs }))

-- what is done with a value
abbrev pub put_to : Rules → Bool → Purpose → Place → Value ℕ → Run ℕ (Formula ℕ)
put_to rules b (purpose.Formula p) place v = Gives (Known (turned p v))
put_to rules b (purpose.Choose p e f) place v =
    cond (truth_of v) (formed rules b p (body_view e.now) place) (formed rules b p (body_view f.now) place)
put_to rules b (purpose.Arguments a es) place v = ev_all rules.classes (bodies_view es.now) place >>= asking a v
put_to rules b (purpose.Argument call es) place w = ev_all rules.classes (bodies_view es.now) place
    >>= λ ws. asking call.value.attribute (Ref call.value.node) (map value_view call.value.done.items ++ w ∷ ws)
put_to rules b (purpose.Elements p part e) place v = elements_of part v >>= among rules b p (body_view e.now) place
put_to rules b (purpose.Under p look e) place v = sought_of rules b p look.now (body_view e.now) place v

-- the formula is decided where it is surely that; else the right one is put to it
abbrev pub decided : (decides conjunction : Bool) → Formula ℕ → Run ℕ (Formula ℕ) → Run ℕ (Formula ℕ)
decided d c f r = cond (is_surely d f) (Gives f) (r >>= λ g. Gives (joined c f g))

-- all that is left to do with a formula, above those that wait
abbrev pub onward : Rules → Bool → List Task → List (Formula ℕ) → Place → Formula ℕ → Run ℕ (Formula ℕ)
onward rules b [] fs place f = Gives f
onward rules b (Right c p e ∷ ts) fs place f =
    decided (not c) c f (formed rules b p (body_view e.now) place) >>= onward rules b ts fs place
onward rules b (Join c ∷ ts) [] place g = Gives g
onward rules b (Join c ∷ ts) (f ∷ fs) place g = onward rules b ts fs place (together c f g)
onward rules b (Element p e ns ∷ ts) fs place f =
    decided p (not p) f (among rules b p (body_view e.now) (outside place) ns.now) >>= onward rules b ts fs (outside place)
onward rules b (Among p m e ns ∷ ts) fs place f =
    decided p (not p) f (among rules b p (body_view e.now) (outside place) (candidates ns.value m)) >>= onward rules b ts fs (outside place)

abbrev pub place_of : Forming → Place
place_of t = record { this = t.this; bound = t.bound; passed = t.arguments; child = t.child }

-- with the formula of an expression that follows
abbrev pub carried : Rules → Forming → Formula ℕ → Run ℕ (Formula ℕ)
carried rules t f = onward rules t.start t.tasks t.pile (place_of t) f

-- with the formula on top
abbrev pub completed : Rules → Bool → List Task → List (Formula ℕ) → Place → Run ℕ (Formula ℕ)
completed rules b ts [] place = Fails Null
completed rules b ts (f ∷ fs) place = onward rules b ts fs place f

-- with a value, for that
abbrev pub used : Rules → Purpose → Forming → Value ℕ → Run ℕ (Formula ℕ)
used rules u t v = put_to rules t.start u (place_of t) v >>= carried rules t

-- what is left to do now
abbrev pub rest : Rules → Doing → Forming → Run ℕ (Formula ℕ)
rest rules (Form p e) t = formed rules t.start p (body_view e.now) (place_of t) >>= carried rules t
rest rules (Evaluate u e) t = ev rules.classes (body_view e.now) (place_of t) >>= used rules u t
rest rules (Use u v) t = used rules u t (value_view v)
rest rules Made t = completed rules t.start t.tasks t.pile (place_of t)
rest rules (Fail k) t = Fails (fault_view k)
rest rules (Wait u j) t = Demands j (λ v. resumed rules.classes t.trial v >>= used rules u t)

-- from the other arguments of a call that is left in the formula
abbrev pub called : Rules → Forming → ℕ → Value ℕ → List (Value ℕ) → Exprs → Run ℕ (Formula ℕ)
called rules t a v done es = (ev_all rules.classes es (place_of t) >>= λ ws. asking a v (done ++ ws)) >>= carried rules t

-- from a call that is left in the formula, all arguments of which are there
abbrev pub asked_of : Rules → Forming → ℕ → Value ℕ → List (Value ℕ) → Run ℕ (Formula ℕ)
asked_of rules t a v vs = asking a v vs >>= carried rules t

-- from a formula on
abbrev pub followed : Rules → Forming → Run ℕ (Formula ℕ) → Run ℕ (Formula ℕ)
followed rules t r = r >>= carried rules t

-- from a formula on that is put to the one on top
abbrev pub joining : Rules → Forming → (conjunction : Bool) → Run ℕ (Formula ℕ) → Run ℕ (Formula ℕ)
joining rules t c r = (r >>= λ g. Gives (joined c (top_of t.pile) g)) >>= onward rules t.start t.tasks (below t.pile) (place_of t)

-- from the other elements on
abbrev pub gone_over : Rules → Forming → Bool → Expr → List ℕ → Run ℕ (Formula ℕ)
gone_over rules t p e ns = among rules t.start p e (place_of t) ns >>= carried rules t

-- from the elements in a component on
abbrev pub folded : Rules → Forming → Bool → ℕ → Expr → Option ℕ → Run ℕ (Formula ℕ)
folded rules t p part e n = (elements_of part (Ref n) >>= among rules t.start p e (place_of t)) >>= carried rules t

-- from those of them on that are looked for
abbrev pub sought_over : Rules → Forming → Bool → Lookup → Expr → Option ℕ → Run ℕ (Formula ℕ)
sought_over rules t p look e n = sought_of rules t.start p look e (place_of t) (Ref n) >>= carried rules t

-- from the formula on top on, where it doesn't decide
abbrev pub settled : Rules → Forming → (decides conjunction : Bool) → Run ℕ (Formula ℕ) → Run ℕ (Formula ℕ)
settled rules t d c r = decided d c (top_of t.pile) r >>= onward rules t.start t.tasks (below t.pile) (place_of t)

-- what one that waits does with a value
abbrev pub told : Rules → Forming → Value ℕ → Run ℕ (Formula ℕ)
told rules t v = elim t.purpose [ None ↦ Fails Null | Some u ↦ resumed rules.classes t.trial v >>= used rules u t ]

-- what is now left to do means the same, behind what was read, as this did behind these reads
abbrev pub GoesOn : Contents ℕ → Rules → List (Location ℕ) → Run ℕ (Formula ℕ) → Doing → Forming → Type 0
GoesOn look rules reads r doing t = follow look reads r ≡ follow look t.trial.reads (rest rules doing t)

-- what is done once an evaluation for that has come to that step
abbrev pub stepped : Purpose → Step → Doing
stepped u (step.Value v) = Use u v
stepped u (step.Fault k) = Fail k
stepped u (step.Need j) = Wait u j

-- where it has come to
abbrev pub reached : Rules → Progress → Forming → Reached ℕ (Formula ℕ)
reached rules (progress.Formula f) t = Ends f
reached rules (progress.Fault k) t = Stops (fault_view k)
reached rules (progress.Need j) t = Waits j (told rules t)

-- how much is left to do at most ---------------------------------------------------------------------------------------

-- for the formula of an expression
abbrev pub form_size : Expr → ℕ
form_size e = 3 * size e + 3

-- for the use of a value
abbrev pub use_cost : Purpose → ℕ
use_cost (purpose.Formula p) = 1
use_cost (purpose.Choose p e f) = form_size (body_view e.now) + form_size (body_view f.now) + 1
use_cost (purpose.Arguments a es) = 2 * sizes (bodies_view es.now) + 2
use_cost (purpose.Argument call es) = 2 * sizes (bodies_view es.now) + 2
use_cost (purpose.Elements p part e) = 3 * tests (size (body_view e.now)) most + 1
use_cost (purpose.Under p look e) = 3 * tests (size (body_view e.now)) most + 1

abbrev pub cost : Task → ℕ
cost (Right c p e) = form_size (body_view e.now) + 2
cost (Join c) = 1
cost (Element p e ns) = 3 * tests (size (body_view e.now)) (length ns.now)
cost (Among p m e ns) = 3 * tests (size (body_view e.now)) (length (candidates ns.value m))

abbrev pub load : List Task → ℕ
load [] = 0
load (t ∷ ts) = cost t + load ts

abbrev pub weight : Doing → Forming → ℕ
weight (Form p e) t = form_size (body_view e.now) + load t.tasks
weight (Evaluate u e) t = size (body_view e.now) + 1 + use_cost u + load t.tasks
weight (Use u v) t = use_cost u + load t.tasks
weight Made t = load t.tasks
weight (Fail k) t = load t.tasks
weight (Wait u j) t = 1 + trial.load t.trial.todo + use_cost u + load t.tasks

-- what is done next carries that on: it means the same, weighs less than so much above the tasks, and nothing more was looked at
pub record CarriesOn (r : Rules → Run ℕ (Formula ℕ)) (most : ℕ) (t : Forming) (d : Doing) (u : Forming) : Type 0 where
  pub same : (rules : Rules) → r rules ≡ rest rules d u
  pub less : weight d u < most + load t.tasks
  pub reads : u.trial.reads ≡ t.trial.reads

-- for what it waits for a value
abbrev pub waiting_cost : Option Purpose → ℕ
waiting_cost None = 0
waiting_cost (Some u) = use_cost u

-- what is left once it waits
abbrev pub left : Progress → Forming → ℕ
left (progress.Need j) t = 1 + trial.load t.trial.todo + waiting_cost t.purpose + load t.tasks
left _ t = 0

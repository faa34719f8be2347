-- What is left of an evaluation under way.
use Rattle.std.specs.Prelude.{◌≡◌, ℕ, ◌+◌, nat_eq, not, cond, true, false, List, [], ◌∷◌, ◌++◌, map, length, Option, Some, bytes_eq}
use Rattle.std.specs.Fmt.{signed_decimal}
use Rattle.std.specs.Int.{w32, int_wrapping_add, int_wrapping_neg}
use Rattle.at_model.specs.Classes.{Classes}
use Rattle.at_model.specs.Bodies.{Expr, Exprs, eval, eval_all, computed, joined, is_in_order, value_eq, int_of, truth_of, text_of, ref_of, is_instance, cast_to, child_of, element_of, count_of, has_of, token_of, passed, demand_of, elements_of, drawer_of, exists_in, first_in, sum_in}
use Rattle.at_model.specs.Run.{Value, Int, Truth, Ref, Location, Contents, Run, Gives, Fails, Demands, ◌>>=◌}
use Rattle.at_model.specs.Follow.{Reached, Ends, Stops, Waits, follow}
use Rattle.at_body.specs.declared.todo.Unary.{Unary}
use Rattle.at_body.specs.declared.todo.Unary.TheVariants as unary
use Rattle.at_body.specs.declared.todo.Binary.{Binary}
use Rattle.at_body.specs.declared.todo.Binary.TheVariants as binary
use Rattle.at_body.specs.declared.todo.Fold.{Fold}
use Rattle.at_body.specs.declared.todo.Fold.TheVariants as fold
use Rattle.at_body.specs.declared.todo.Search.{Search}
use Rattle.at_body.specs.declared.todo.Todo.{Todo}
use Rattle.at_body.specs.declared.todo.Todo.TheVariants.{Use, Right, Apply, And, Or, Choose, Arguments, Argument, Elements, Element, Under, Among}
use Rattle.at_body.specs.declared.todo.Now.{Now}
use Rattle.at_body.specs.declared.todo.Now.TheVariants.{Enter, Back, Fail, Ask}
use Rattle.at_body.specs.declared.trial.Trial.{Trial}
use Rattle.at_body.specs.declared.trial.Step.{Step}
use Rattle.at_body.specs.declared.trial.Step.TheVariants as step
use Rattle.at_body.specs.Values.{value_view, fault_view}
use Rattle.at_rules.specs.Bodies.{body_view, bodies_view, operator_view, order_view}
use Rattle.at_body.specs.Size.{size, sizes, tests, most}
use Rattle.at_rules.specs.declared.body.Lookup.{Lookup}
use Rattle.at_class.specs.Keys.{key_view}
use Rattle.at_body.specs.Standing.{Place, scope, outside, inside, innermost}
use Rattle.at_body.specs.Seeking.{candidates, fold_of, sought_in}

-- an expression at a place
abbrev pub ev : Classes → Expr → Place → Run ℕ (Value ℕ)
ev classes e p = eval classes nat_eq e (scope p)

abbrev pub ev_all : Classes → Exprs → Place → Run ℕ (List (Value ℕ))
ev_all classes es p = eval_all classes nat_eq es (scope p)

-- what is done with one value
abbrev pub with_one : Classes → Unary → Value ℕ → Run ℕ (Value ℕ)
with_one classes unary.Negate v = Gives (Int (int_wrapping_neg w32 (int_of v)))
with_one classes unary.Not v = Gives (Truth (not (truth_of v)))
with_one classes (unary.InstanceOf class) v = is_instance classes class (ref_of v)
with_one classes (unary.CastTo class) v = cast_to classes class (ref_of v)
with_one classes (unary.Child part) v = child_of part v
with_one classes (unary.Count part) v = count_of part v
with_one classes (unary.Has part) v = has_of part v
with_one classes (unary.Token part) v = token_of part v
with_one classes unary.Passed v = passed v

-- what is done with two values
abbrev pub with_two : Binary → Value ℕ → Value ℕ → Run ℕ (Value ℕ)
with_two (binary.Arithmetic o) v w = computed (operator_view o) (int_of v) (int_of w)
with_two (binary.Compare o) v w = Gives (Truth (is_in_order (order_view o) (int_of v) (int_of w)))
with_two binary.Join v w = joined (text_of v ++ text_of w)
with_two binary.JoinInt v w = joined (text_of v ++ signed_decimal (int_of w))
with_two binary.Same v w = Gives (Truth (value_eq nat_eq v w))
with_two binary.Differ v w = Gives (Truth (not (value_eq nat_eq v w)))
with_two binary.Equals v w = Gives (Truth (bytes_eq (text_of v) (text_of w)))
with_two (binary.Element part) v w = element_of part v w

-- a fold over these nodes
abbrev pub over : Classes → Fold → Expr → Place → List ℕ → Run ℕ (Value ℕ)
over classes fold.Exists e p ns = exists_in (λ n. ev classes e (inside p n)) ns
over classes fold.First e p ns = first_in (λ n. ev classes e (inside p n)) ns
over classes (fold.Sum total) e p ns = sum_in (λ n. ev classes e (inside p n)) total ns

-- what it does with the value of its expression at a node, before the nodes that follow
abbrev pub settled : Classes → Fold → Expr → Place → ℕ → List ℕ → Value ℕ → Run ℕ (Value ℕ)
settled classes fold.Exists e p n ns v = cond (truth_of v) (Gives (Truth true)) (over classes fold.Exists e p ns)
settled classes fold.First e p n ns v = cond (truth_of v) (Gives (Ref (Some n))) (over classes fold.First e p ns)
settled classes (fold.Sum total) e p n ns v = sum_in (λ m. ev classes e (inside p m)) (int_wrapping_add w32 total (int_of v)) ns

-- over those nodes in a component that are looked for
abbrev pub sought_of : Classes → Search → Lookup → Expr → Place → Value ℕ → Run ℕ (Value ℕ)
sought_of classes f look e p v = drawer_of look.part (key_view look.key) v (sought_in look.sought (scope p).names) >>= over classes (fold_of f) e p

-- what is done with a value
abbrev pub then : Classes → Todo → Place → Value ℕ → Run ℕ (Value ℕ)
then classes (Use u) p v = with_one classes u v
then classes (Right o b) p v = ev classes (body_view b.now) p >>= with_two o v
then classes (Apply o v) p w = with_two o (value_view v) w
then classes (And b) p v = cond (truth_of v) (ev classes (body_view b.now) p) (Gives (Truth false))
then classes (Or b) p v = cond (truth_of v) (Gives (Truth true)) (ev classes (body_view b.now) p)
then classes (Choose a b) p v = cond (truth_of v) (ev classes (body_view a.now) p) (ev classes (body_view b.now) p)
then classes (Arguments a bs) p v = ev_all classes (bodies_view bs.now) p >>= demand_of a v
then classes (Argument call bs) p w =
    ev_all classes (bodies_view bs.now) p >>= λ ws. demand_of call.value.attribute (Ref call.value.node) (map value_view call.value.done.items ++ w ∷ ws)
then classes (Elements f part b) p v = elements_of part v >>= over classes f (body_view b.now) p
then classes (Element f b n ns) p v = settled classes f (body_view b.now) (outside p) n ns.now v
then classes (Under f look b) p v = sought_of classes f look.now (body_view b.now) p v
then classes (Among f m b ns) p v = settled classes (fold_of f) (body_view b.now) (outside p) (innermost p.bound) (candidates ns m) v

-- where what comes after that stands
abbrev pub outer : Todo → Place → Place
outer (Element f b n ns) p = outside p
outer (Among f m b ns) p = outside p
outer _ p = p

-- all that is left to do with a value
abbrev pub after : Classes → List Todo → Place → Value ℕ → Run ℕ (Value ℕ)
after classes [] p v = Gives v
after classes (k ∷ ks) p v = then classes k p v >>= after classes ks (outer k p)

abbrev pub place_of : Trial → Place
place_of t = record { this = t.this; bound = t.bound; passed = t.arguments; child = t.child }

-- what a trial that waits for a value does with it
abbrev pub resumed : Classes → Trial → Value ℕ → Run ℕ (Value ℕ)
resumed classes t = after classes t.todo (place_of t)

-- what it does with a value, for the use that is put above the rest
abbrev pub used : Classes → Todo → Trial → Value ℕ → Run ℕ (Value ℕ)
used classes k t v = then classes k (place_of t) v >>= after classes t.todo (outer k (place_of t))

-- what it does from an evaluation on
abbrev pub onto : Classes → Trial → Run ℕ (Value ℕ) → Run ℕ (Value ℕ)
onto classes t r = r >>= resumed classes t

-- what it does from an expression on
abbrev pub begun : Classes → Trial → Expr → Run ℕ (Value ℕ)
begun classes t e = ev classes e (place_of t) >>= resumed classes t

-- what it does from an expression on, for that use of its value
abbrev pub evaluated_for : Classes → Trial → Todo → Expr → Run ℕ (Value ℕ)
evaluated_for classes t k e = ev classes e (place_of t) >>= used classes k t

-- from the other arguments of a call on
abbrev pub called : Classes → Trial → ℕ → Value ℕ → List (Value ℕ) → Exprs → Run ℕ (Value ℕ)
called classes t a v done bs = (ev_all classes bs (place_of t) >>= λ ws. demand_of a v (done ++ ws)) >>= resumed classes t

-- from the other nodes of a fold on
abbrev pub gone_over : Classes → Trial → Fold → Expr → List ℕ → Run ℕ (Value ℕ)
gone_over classes t f e ns = over classes f e (place_of t) ns >>= resumed classes t

-- from the elements in a component on
abbrev pub folded : Classes → Trial → Fold → ℕ → Expr → Option ℕ → Run ℕ (Value ℕ)
folded classes t f part e n = (elements_of part (Ref n) >>= over classes f e (place_of t)) >>= resumed classes t

-- from those of them on that are looked for
abbrev pub sought_over : Classes → Trial → Search → Lookup → Expr → Option ℕ → Run ℕ (Value ℕ)
sought_over classes t f look e n = sought_of classes f look e (place_of t) (Ref n) >>= resumed classes t

-- from the value of a fold's expression on
abbrev pub decided : Classes → Trial → Fold → Expr → ℕ → List ℕ → Value ℕ → Run ℕ (Value ℕ)
decided classes t f e n ns v = settled classes f e (place_of t) n ns v >>= resumed classes t

-- what is left to do now
abbrev pub rest : Classes → Now → Trial → Run ℕ (Value ℕ)
rest classes (Enter b) t = begun classes t (body_view b.now)
rest classes (Back v) t = resumed classes t (value_view v)
rest classes (Fail f) t = Fails (fault_view f)
rest classes (Ask attribute node passed) t = Demands (record { node = node; attribute = attribute; arguments = map value_view passed }) (resumed classes t)

-- what is now left to do means the same, behind what was read, as this evaluation did behind these reads
abbrev pub GoesOn : Contents ℕ → Classes → List (Location ℕ) → Run ℕ (Value ℕ) → Now → Trial → Type 0
GoesOn look classes reads evaluation now t = follow look reads evaluation ≡ follow look t.reads (rest classes now t)

-- nothing but the reads has changed
abbrev pub OnlyReads : Trial → Trial → Type 0
OnlyReads old new = new ≡ record old { reads = new.reads }

-- where an evaluation has come to with that step
abbrev pub reached : Classes → Step → Trial → Reached ℕ (Value ℕ)
reached classes (step.Value v) t = Ends (value_view v)
reached classes (step.Fault f) t = Stops (fault_view f)
reached classes (step.Need j) t = Waits j (resumed classes t)

-- how much is left to do at most
abbrev pub cost : Todo → ℕ
cost (Use u) = 1
cost (Right o b) = size (body_view b.now) + 2
cost (Apply o v) = 1
cost (And b) = size (body_view b.now) + 1
cost (Or b) = size (body_view b.now) + 1
cost (Choose a b) = size (body_view a.now) + size (body_view b.now) + 1
cost (Arguments a bs) = sizes (bodies_view bs.now) + 2
cost (Argument call bs) = sizes (bodies_view bs.now) + 2
cost (Elements f part b) = tests (size (body_view b.now)) most + 1
cost (Element f b n ns) = tests (size (body_view b.now)) (length ns.now)
cost (Under f look b) = tests (size (body_view b.now)) most + 1
cost (Among f m b ns) = tests (size (body_view b.now)) (length (candidates ns m))

abbrev pub load : List Todo → ℕ
load [] = 0
load (k ∷ ks) = cost k + load ks

abbrev pub weight : Now → Trial → ℕ
weight (Enter b) t = size (body_view b.now) + load t.todo
weight (Ask attribute node passed) t = 1 + load t.todo
weight _ t = load t.todo

-- what is left once it waits
abbrev pub left : Step → Trial → ℕ
left (step.Need j) t = 1 + load t.todo
left _ t = 0

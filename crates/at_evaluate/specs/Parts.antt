-- Expressions, by their parts.
use Rattle.std.specs.Prelude.{ℕ, Bool, true, false, cond, List, Option, Some, None}
use Rattle.std.specs.Borrow.{Bor}
use Rattle.at_model.specs.Bodies.{Expr, truth_of, demand_of, drawer_of, elements_of}
use Rattle.at_model.specs.Classes.{Classes}
use Rattle.at_model.specs.Run.{Value, Text, Truth, Run, Gives, ◌>>=◌}
use Rattle.at_rules.specs.Bodies.{body_view, bodies_view}
use Rattle.at_class.specs.Keys.{key_view}
use Rattle.at_rules.specs.declared.body.Body.{Body}
use Rattle.at_rules.specs.declared.body.Lookup.{Lookup}
use Rattle.at_body.specs.Rest.{ev, ev_all, over, with_one, with_two}
use Rattle.at_body.specs.Seeking.{sought_in}
use Rattle.at_body.specs.Standing.{Place, scope}
use Rattle.at_body.specs.Values.{value_view}
use Rattle.at_body.specs.declared.todo.Unary.{Unary}
use Rattle.at_body.specs.declared.todo.Binary.{Binary}
use Rattle.at_body.specs.declared.todo.Fold.{Fold}
use Rattle.at_evaluate.specs.declared.folding.Next.{Next}
use Rattle.at_evaluate.specs.declared.folding.Next.TheVariants as next

-- what is done with the value of an operand
abbrev pub one_of : Classes → Place → Unary → Body → Run ℕ (Value ℕ)
one_of classes p u a = ev classes (body_view a) p >>= with_one classes u

-- what is done with the values of two operands
abbrev pub two_of : Classes → Place → Binary → Body → Body → Run ℕ (Value ℕ)
two_of classes p o a b = ev classes (body_view a) p >>= λ v. ev classes (body_view b) p >>= with_two o v

-- what is done with the value of an operand beside a text
abbrev pub beside_text : Classes → Place → Binary → Body → List ℕ → Run ℕ (Value ℕ)
beside_text classes p o a text = ev classes (body_view a) p >>= λ v. with_two o v (Text text)

-- the expression, or that truth value where there is none
abbrev pub or_truth : Classes → Place → Option (Bor Body) → Bool → Run ℕ (Value ℕ)
or_truth classes p None b = Gives (Truth b)
or_truth classes p (Some a) b = ev classes (body_view a.now) p

-- the expression that a test chooses
abbrev pub either_of : Classes → Place → Body → (chosen other : Option (Bor Body)) → Run ℕ (Value ℕ)
either_of classes p test chosen other =
    ev classes (body_view test) p >>= λ v. cond (truth_of v) (or_truth classes p chosen true) (or_truth classes p other false)

-- an attribute of a node, with the values of arguments
abbrev pub call_of : Classes → Place → Body → ℕ → List Body → Run ℕ (Value ℕ)
call_of classes p a attribute bs = ev classes (body_view a) p >>= λ v. ev_all classes (bodies_view bs) p >>= demand_of attribute v

-- a fold over the elements in a component of a node
abbrev pub fold_of : Classes → Place → Fold → Body → ℕ → Body → Run ℕ (Value ℕ)
fold_of classes p f a part b = ev classes (body_view a) p >>= λ v. elements_of part v >>= over classes f (body_view b) p

-- the elements of the node that a value is that are looked for
abbrev pub found_of : Place → Lookup → Value ℕ → Run ℕ (List ℕ)
found_of p look v = drawer_of look.part (key_view look.key) v (sought_in look.sought (scope p).names)

-- a fold over those
abbrev pub search_of : Classes → Place → Fold → Body → Lookup → Body → Run ℕ (Value ℕ)
search_of classes p f a look b = ev classes (body_view a) p >>= λ v. found_of p look v >>= over classes f (body_view b) p

-- a fold goes on, or has ended with a value
abbrev pub next_of : Classes → Expr → Place → List ℕ → Next → Run ℕ (Value ℕ)
next_of classes e p ns (next.On f) = over classes f e p ns
next_of classes e p ns (next.End v) = Gives (value_view v)

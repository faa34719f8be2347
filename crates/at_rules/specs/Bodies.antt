-- What the bodies of equations stand for, and the kinds of values.
use Rattle.std.specs.Prelude.{Bool, true, false, List, [], ◌∷◌, string_bytes}
use Rattle.at_model.specs.Bodies.{Expr, Exprs, no_exprs, expr, IntLiteral, TruthLiteral, TextLiteral, NullLiteral, Arithmetic, Compare, Multiply, Divide, Remainder, Add, Subtract, Below, AtMost, Above, AtLeast}
use Rattle.at_model.specs.Bodies as model
use Rattle.at_model.specs.Rules as kinds
use Rattle.at_rules.specs.declared.body.Operator.{Operator}
use Rattle.at_rules.specs.declared.body.Operator.TheVariants as operator
use Rattle.at_rules.specs.declared.body.Order.{Order}
use Rattle.at_rules.specs.declared.body.Order.TheVariants as order
use Rattle.at_class.specs.Keys.{key_view}
use Rattle.at_rules.specs.declared.body.Sought.{Sought}
use Rattle.at_rules.specs.declared.body.Sought.TheVariants as sought
use Rattle.at_rules.specs.declared.body.Kind.{Kind}
use Rattle.at_rules.specs.declared.body.Kind.TheVariants as kind
use Rattle.at_rules.specs.declared.body.Body.{Body, Row_of-Body, end_of-Body, more_of-Body}
use Rattle.at_rules.specs.declared.body.Body as body

abbrev pub operator_view : Operator → model.Operator
operator_view operator.Multiply = Multiply
operator_view operator.Divide = Divide
operator_view operator.Remainder = Remainder
operator_view operator.Add = Add
operator_view operator.Subtract = Subtract

abbrev pub order_view : Order → model.Order
order_view order.Below = Below
order_view order.AtMost = AtMost
order_view order.Above = Above
order_view order.AtLeast = AtLeast

abbrev pub kind_view : Kind → kinds.Kind
kind_view kind.Int = kinds.Int
kind_view kind.Bool = kinds.Truth
kind_view kind.Text = kinds.Text
kind_view (kind.Class c) = kinds.Class c

-- the kind of ints or of booleans
abbrev pub is_numeric : Kind → Bool
is_numeric kind.Int = true
is_numeric kind.Bool = true
is_numeric k = false

-- the text that is looked for
abbrev pub sought_view : Sought → Expr
sought_view (sought.Text text) = TextLiteral (string_bytes text)
sought_view (sought.Name i) = model.Name i

abbrev mutual
  pub body_view : Body → Expr
  body_view (body.Int n) = IntLiteral n
  body_view (body.Truth b) = TruthLiteral b
  body_view (body.Text text) = TextLiteral (string_bytes text)
  body_view body.Null = NullLiteral
  body_view body.This = model.This
  body_view (body.Name i) = model.Name i
  body_view body.IndexName = model.IndexName
  body_view (body.Negate' p a) = model.Negate (body_view a)
  body_view (body.Not' p a) = model.Not (body_view a)
  body_view (body.Arithmetic' o p a q b) = Arithmetic (operator_view o) (body_view a) (body_view b)
  body_view (body.Compare' o p a q b) = Compare (order_view o) (body_view a) (body_view b)
  body_view (body.Join' p a q b) = model.Join (body_view a) (body_view b)
  body_view (body.JoinInt' p a q b) = model.JoinInt (body_view a) (body_view b)
  body_view (body.Same' p a q b) = model.Same (body_view a) (body_view b)
  body_view (body.Differ' p a q b) = model.Differ (body_view a) (body_view b)
  body_view (body.And' p a q b) = model.And (body_view a) (body_view b)
  body_view (body.Or' p a q b) = model.Or (body_view a) (body_view b)
  body_view (body.Choose' p c q a r b) = model.Choose (body_view c) (body_view a) (body_view b)
  body_view (body.Equals' p a q b) = model.Equals (body_view a) (body_view b)
  body_view (body.InstanceOf' p a c) = model.InstanceOf (body_view a) c
  body_view (body.CastTo' c p a) = model.CastTo c (body_view a)
  body_view (body.Child' p a part) = model.Child (body_view a) part
  body_view (body.Element' p a part q b) = model.Element (body_view a) part (body_view b)
  body_view (body.Count' p a part) = model.Count (body_view a) part
  body_view (body.Has' p a part) = model.Has (body_view a) part
  body_view (body.TokenOf' p a part) = model.TokenOf (body_view a) part
  body_view (body.Call' p a attribute shape row) = model.Call (body_view a) attribute (row_view row)
  body_view (body.Passed' p a) = model.Passed (body_view a)
  body_view (body.Exists' p a part q b) = model.Exists (body_view a) part (body_view b)
  body_view (body.First' p a part q b) = model.First (body_view a) part (body_view b)
  body_view (body.Sum' p a part q b) = model.Sum (body_view a) part (body_view b)
  body_view (body.SeekAny' p a look q b) = model.SeekAny (body_view a) look.value.part (key_view look.value.key) (sought_view look.value.sought) (body_view b)
  body_view (body.SeekFirst' p a look q b) =
      model.SeekFirst (body_view a) look.value.part (key_view look.value.key) (sought_view look.value.sought) (body_view b)

  pub row_view : {m : _} → Row_of-Body m → Exprs
  row_view end_of-Body = no_exprs
  row_view (more_of-Body b rest) = expr (body_view b) (row_view rest)

-- the bodies of arguments in a list
abbrev pub bodies_view : List Body → Exprs
bodies_view [] = no_exprs
bodies_view (b ∷ bs) = expr (body_view b) (bodies_view bs)

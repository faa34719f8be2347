-- An expression of a kind is evaluated by parts of their kinds, for uses of their values.
use Rattle.std.proofs.Common.{◌≡◌, ℕ, ℤ, List, ◌∷◌, subst, Bor, Result, Ok, Err, IfOk}
use Rattle.at_model.specs.Terms.{IsInt32}
use Rattle.at_model.specs.Bodies.{Expr, Negate, Not, Arithmetic, Compare, Join, JoinInt, Same, Differ, And, Or, Choose, Equals, InstanceOf, CastTo, Child, Element, Count, Has, TokenOf, Call, Exists, First, Sum, Passed}
use Rattle.at_model.specs.Rules.{Rules, Kind}
use Rattle.at_model.specs.Rules as model
use Rattle.at_model.specs.Kinds.{HasKind}
use Rattle.at_model.specs.Kinds as form
use Rattle.at_model.specs.TypedRuns.{ClassAt}
use Rattle.at_rules.specs.Bodies.{body_view, bodies_view, operator_view, order_view}
use Rattle.at_rules.specs.declared.body.Body.{Body}
use Rattle.at_rules.specs.declared.body.Operator.{Operator}
use Rattle.at_rules.specs.declared.body.Order.{Order}
use Rattle.at_body.specs.declared.todo.Unary.TheVariants as unary
use Rattle.at_body.specs.declared.todo.Binary.TheVariants as binary
use Rattle.at_body.specs.declared.todo.Fold.TheVariants as fold
use Rattle.at_body.specs.declared.todo.Todo.{Todo}
use Rattle.at_body.specs.declared.todo.Todo.TheVariants as code
use Rattle.at_body.specs.declared.todo.Now.{Now}
use Rattle.at_body.specs.declared.trial.Trial.{Trial}
use Rattle.at_body.specs.Typed.{PlaceKinds, scope_kinds, IsOperation, IsTodo, AreTodos, Enters, IsTypedNow}
use Rattle.at_body.specs.Typed as typed
use Rattle.at_body.proofs.Entering.{Put}

module _ (rules : Rules) (at : ClassAt ℕ) (s : PlaceKinds) where
  -- the part has a kind for which the use of its value waits
  pub record IsPart (a : Expr) (t : Todo) (ts : List Todo) : Type 0 where
    pub kind : Kind
    pub is : HasKind rules (scope_kinds s) a kind
    pub todo : AreTodos rules at s kind (t ∷ ts)

  one_part : (a : Expr) (t : Todo) (ts : List Todo) (l k : Kind) → HasKind rules (scope_kinds s) a l → IsTodo rules at s l t s k → AreTodos rules at s k ts → IsPart a t ts
  one_part a t ts l k x y h = record { kind = l; is = x; todo = typed.more y h }

  pub negates : (a : Expr) (k : Kind) (ts : List Todo) → HasKind rules (scope_kinds s) (Negate a) k → AreTodos rules at s k ts → IsPart a (code.Use unary.Negate) ts
  negates a k ts x h = by_kind k x h
    where
      by_kind : (k : Kind) → HasKind rules (scope_kinds s) (Negate a) k → AreTodos rules at s k ts → IsPart a (code.Use unary.Negate) ts
      by_kind _ (form.widened c d sub x) h = by_kind (model.Class c) x (typed.widened c d sub h)
      by_kind _ (form.widened_all c d sub x) h = by_kind (model.Nodes c) x (typed.widened_all c d sub h)
      by_kind _ (form.negate x) h = one_part a _ ts model.Int model.Int x (typed.used s model.Int model.Int unary.Negate typed.negate) h

  pub opposes : (a : Expr) (k : Kind) (ts : List Todo) → HasKind rules (scope_kinds s) (Not a) k → AreTodos rules at s k ts → IsPart a (code.Use unary.Not) ts
  opposes a k ts x h = by_kind k x h
    where
      by_kind : (k : Kind) → HasKind rules (scope_kinds s) (Not a) k → AreTodos rules at s k ts → IsPart a (code.Use unary.Not) ts
      by_kind _ (form.widened c d sub x) h = by_kind (model.Class c) x (typed.widened c d sub h)
      by_kind _ (form.widened_all c d sub x) h = by_kind (model.Nodes c) x (typed.widened_all c d sub h)
      by_kind _ (form.opposite x) h = one_part a _ ts model.Truth model.Truth x (typed.used s model.Truth model.Truth unary.Not typed.opposite) h

  pub tests : (a : Expr) (class : ℕ) (k : Kind) (ts : List Todo) → HasKind rules (scope_kinds s) (InstanceOf a class) k → AreTodos rules at s k ts → IsPart a (code.Use (unary.InstanceOf class)) ts
  tests a class k ts x h = by_kind k x h
    where
      by_kind : (k : Kind) → HasKind rules (scope_kinds s) (InstanceOf a class) k → AreTodos rules at s k ts → IsPart a (code.Use (unary.InstanceOf class)) ts
      by_kind _ (form.widened c d sub x) h = by_kind (model.Class c) x (typed.widened c d sub h)
      by_kind _ (form.widened_all c d sub x) h = by_kind (model.Nodes c) x (typed.widened_all c d sub h)
      by_kind _ (form.instance_of c _ there x) h = one_part a _ ts (model.Class c) model.Truth x (typed.used s (model.Class c) model.Truth (unary.InstanceOf class) (typed.instance_of c class there)) h

  pub casts : (a : Expr) (class : ℕ) (k : Kind) (ts : List Todo) → HasKind rules (scope_kinds s) (CastTo class a) k → AreTodos rules at s k ts → IsPart a (code.Use (unary.CastTo class)) ts
  casts a class k ts x h = by_kind k x h
    where
      by_kind : (k : Kind) → HasKind rules (scope_kinds s) (CastTo class a) k → AreTodos rules at s k ts → IsPart a (code.Use (unary.CastTo class)) ts
      by_kind _ (form.widened c d sub x) h = by_kind (model.Class c) x (typed.widened c d sub h)
      by_kind _ (form.widened_all c d sub x) h = by_kind (model.Nodes c) x (typed.widened_all c d sub h)
      by_kind _ (form.cast_to c _ there x) h = one_part a _ ts (model.Class c) (model.Class class) x (typed.used s (model.Class c) (model.Class class) (unary.CastTo class) (typed.cast_to c class there)) h

  pub asks_child : (a : Expr) (part : ℕ) (k : Kind) (ts : List Todo) → HasKind rules (scope_kinds s) (Child a part) k → AreTodos rules at s k ts → IsPart a (code.Use (unary.Child part)) ts
  asks_child a part k ts x h = by_kind k x h
    where
      by_kind : (k : Kind) → HasKind rules (scope_kinds s) (Child a part) k → AreTodos rules at s k ts → IsPart a (code.Use (unary.Child part)) ts
      by_kind _ (form.widened c d sub x) h = by_kind (model.Class c) x (typed.widened c d sub h)
      by_kind _ (form.widened_all c d sub x) h = by_kind (model.Nodes c) x (typed.widened_all c d sub h)
      by_kind _ (form.child c _ b is x) h = one_part a _ ts (model.Class c) (model.Class b) x (typed.used s (model.Class c) (model.Class b) (unary.Child part) (typed.child c part b is)) h

  pub asks_count : (a : Expr) (part : ℕ) (k : Kind) (ts : List Todo) → HasKind rules (scope_kinds s) (Count a part) k → AreTodos rules at s k ts → IsPart a (code.Use (unary.Count part)) ts
  asks_count a part k ts x h = by_kind k x h
    where
      by_kind : (k : Kind) → HasKind rules (scope_kinds s) (Count a part) k → AreTodos rules at s k ts → IsPart a (code.Use (unary.Count part)) ts
      by_kind _ (form.widened c d sub x) h = by_kind (model.Class c) x (typed.widened c d sub h)
      by_kind _ (form.widened_all c d sub x) h = by_kind (model.Nodes c) x (typed.widened_all c d sub h)
      by_kind _ (form.count c _ b is x) h = one_part a _ ts (model.Class c) model.Int x (typed.used s (model.Class c) model.Int (unary.Count part) (typed.count c part b is)) h

  pub asks_has : (a : Expr) (part : ℕ) (k : Kind) (ts : List Todo) → HasKind rules (scope_kinds s) (Has a part) k → AreTodos rules at s k ts → IsPart a (code.Use (unary.Has part)) ts
  asks_has a part k ts x h = by_kind k x h
    where
      by_kind : (k : Kind) → HasKind rules (scope_kinds s) (Has a part) k → AreTodos rules at s k ts → IsPart a (code.Use (unary.Has part)) ts
      by_kind _ (form.widened c d sub x) h = by_kind (model.Class c) x (typed.widened c d sub h)
      by_kind _ (form.widened_all c d sub x) h = by_kind (model.Nodes c) x (typed.widened_all c d sub h)
      by_kind _ (form.has c _ b is x) h = one_part a _ ts (model.Class c) model.Truth x (typed.used s (model.Class c) model.Truth (unary.Has part) (typed.has c part b is)) h

  pub asks_token : (a : Expr) (part : ℕ) (k : Kind) (ts : List Todo) → HasKind rules (scope_kinds s) (TokenOf a part) k → AreTodos rules at s k ts → IsPart a (code.Use (unary.Token part)) ts
  asks_token a part k ts x h = by_kind k x h
    where
      by_kind : (k : Kind) → HasKind rules (scope_kinds s) (TokenOf a part) k → AreTodos rules at s k ts → IsPart a (code.Use (unary.Token part)) ts
      by_kind _ (form.widened c d sub x) h = by_kind (model.Class c) x (typed.widened c d sub h)
      by_kind _ (form.widened_all c d sub x) h = by_kind (model.Nodes c) x (typed.widened_all c d sub h)
      by_kind k (form.token_of c _ token is x) h = one_part a _ ts (model.Class c) k x (typed.used s (model.Class c) k (unary.Token part) (typed.token c part token is)) h

  pub passes : (a : Expr) (k : Kind) (ts : List Todo) → HasKind rules (scope_kinds s) (Passed a) k → AreTodos rules at s k ts → IsPart a (code.Use unary.Passed) ts
  passes a k ts x h = by_kind k x h
    where
      by_kind : (k : Kind) → HasKind rules (scope_kinds s) (Passed a) k → AreTodos rules at s k ts → IsPart a (code.Use unary.Passed) ts
      by_kind _ (form.widened c d sub x) h = by_kind (model.Class c) x (typed.widened c d sub h)
      by_kind _ (form.widened_all c d sub x) h = by_kind (model.Nodes c) x (typed.widened_all c d sub h)
      by_kind k (form.passed _ x) h = one_part a _ ts k k x (typed.used s k k unary.Passed (typed.handed_on k)) h

  -- the operands of a form with two
  two_parts : (a : Expr) (b : Bor Body) (o : _) (ts : List Todo) (k l m : Kind) → IsOperation rules k l o m → HasKind rules (scope_kinds s) a k → HasKind rules (scope_kinds s) (body_view b.now) l → AreTodos rules at s m ts → IsPart a (code.Right o b) ts
  two_parts a b o ts k l m is x y h = one_part a _ ts k m x (typed.right s k l m o b is y) h

  pub computes : (a : Expr) (b : Bor Body) (o : Operator) (k : Kind) (ts : List Todo) → HasKind rules (scope_kinds s) (Arithmetic (operator_view o) a (body_view b.now)) k → AreTodos rules at s k ts → IsPart a (code.Right (binary.Arithmetic o) b) ts
  computes a b o k ts x h = by_kind k x h
    where
      by_kind : (k : Kind) → HasKind rules (scope_kinds s) (Arithmetic (operator_view o) a (body_view b.now)) k → AreTodos rules at s k ts → IsPart a (code.Right (binary.Arithmetic o) b) ts
      by_kind _ (form.widened c d sub x) h = by_kind (model.Class c) x (typed.widened c d sub h)
      by_kind _ (form.widened_all c d sub x) h = by_kind (model.Nodes c) x (typed.widened_all c d sub h)
      by_kind _ (form.arithmetic _ x y) h = two_parts a b _ ts model.Int model.Int model.Int (typed.arithmetic o) x y h

  pub compares : (a : Expr) (b : Bor Body) (o : Order) (k : Kind) (ts : List Todo) → HasKind rules (scope_kinds s) (Compare (order_view o) a (body_view b.now)) k → AreTodos rules at s k ts → IsPart a (code.Right (binary.Compare o) b) ts
  compares a b o k ts x h = by_kind k x h
    where
      by_kind : (k : Kind) → HasKind rules (scope_kinds s) (Compare (order_view o) a (body_view b.now)) k → AreTodos rules at s k ts → IsPart a (code.Right (binary.Compare o) b) ts
      by_kind _ (form.widened c d sub x) h = by_kind (model.Class c) x (typed.widened c d sub h)
      by_kind _ (form.widened_all c d sub x) h = by_kind (model.Nodes c) x (typed.widened_all c d sub h)
      by_kind _ (form.compare _ x y) h = two_parts a b _ ts model.Int model.Int model.Truth (typed.compare o) x y h

  pub joins : (a : Expr) (b : Bor Body) (k : Kind) (ts : List Todo) → HasKind rules (scope_kinds s) (Join a (body_view b.now)) k → AreTodos rules at s k ts → IsPart a (code.Right binary.Join b) ts
  joins a b k ts x h = by_kind k x h
    where
      by_kind : (k : Kind) → HasKind rules (scope_kinds s) (Join a (body_view b.now)) k → AreTodos rules at s k ts → IsPart a (code.Right binary.Join b) ts
      by_kind _ (form.widened c d sub x) h = by_kind (model.Class c) x (typed.widened c d sub h)
      by_kind _ (form.widened_all c d sub x) h = by_kind (model.Nodes c) x (typed.widened_all c d sub h)
      by_kind _ (form.join x y) h = two_parts a b _ ts model.Text model.Text model.Text typed.join x y h

  pub joins_int : (a : Expr) (b : Bor Body) (k : Kind) (ts : List Todo) → HasKind rules (scope_kinds s) (JoinInt a (body_view b.now)) k → AreTodos rules at s k ts → IsPart a (code.Right binary.JoinInt b) ts
  joins_int a b k ts x h = by_kind k x h
    where
      by_kind : (k : Kind) → HasKind rules (scope_kinds s) (JoinInt a (body_view b.now)) k → AreTodos rules at s k ts → IsPart a (code.Right binary.JoinInt b) ts
      by_kind _ (form.widened c d sub x) h = by_kind (model.Class c) x (typed.widened c d sub h)
      by_kind _ (form.widened_all c d sub x) h = by_kind (model.Nodes c) x (typed.widened_all c d sub h)
      by_kind _ (form.join_int x y) h = two_parts a b _ ts model.Text model.Int model.Text typed.join_int x y h

  pub same : (a : Expr) (b : Bor Body) (k : Kind) (ts : List Todo) → HasKind rules (scope_kinds s) (Same a (body_view b.now)) k → AreTodos rules at s k ts → IsPart a (code.Right binary.Same b) ts
  same a b k ts x h = by_kind k x h
    where
      by_kind : (k : Kind) → HasKind rules (scope_kinds s) (Same a (body_view b.now)) k → AreTodos rules at s k ts → IsPart a (code.Right binary.Same b) ts
      by_kind _ (form.widened c d sub x) h = by_kind (model.Class c) x (typed.widened c d sub h)
      by_kind _ (form.widened_all c d sub x) h = by_kind (model.Nodes c) x (typed.widened_all c d sub h)
      by_kind _ (form.same k l alike x y) h = two_parts a b _ ts k l model.Truth (typed.same k l alike) x y h

  pub differs : (a : Expr) (b : Bor Body) (k : Kind) (ts : List Todo) → HasKind rules (scope_kinds s) (Differ a (body_view b.now)) k → AreTodos rules at s k ts → IsPart a (code.Right binary.Differ b) ts
  differs a b k ts x h = by_kind k x h
    where
      by_kind : (k : Kind) → HasKind rules (scope_kinds s) (Differ a (body_view b.now)) k → AreTodos rules at s k ts → IsPart a (code.Right binary.Differ b) ts
      by_kind _ (form.widened c d sub x) h = by_kind (model.Class c) x (typed.widened c d sub h)
      by_kind _ (form.widened_all c d sub x) h = by_kind (model.Nodes c) x (typed.widened_all c d sub h)
      by_kind _ (form.differ k l alike x y) h = two_parts a b _ ts k l model.Truth (typed.differ k l alike) x y h

  pub equals : (a : Expr) (b : Bor Body) (k : Kind) (ts : List Todo) → HasKind rules (scope_kinds s) (Equals a (body_view b.now)) k → AreTodos rules at s k ts → IsPart a (code.Right binary.Equals b) ts
  equals a b k ts x h = by_kind k x h
    where
      by_kind : (k : Kind) → HasKind rules (scope_kinds s) (Equals a (body_view b.now)) k → AreTodos rules at s k ts → IsPart a (code.Right binary.Equals b) ts
      by_kind _ (form.widened c d sub x) h = by_kind (model.Class c) x (typed.widened c d sub h)
      by_kind _ (form.widened_all c d sub x) h = by_kind (model.Nodes c) x (typed.widened_all c d sub h)
      by_kind _ (form.equals x y) h = two_parts a b _ ts model.Text model.Text model.Truth typed.equals x y h

  pub asks_element : (a : Expr) (part : ℕ) (b : Bor Body) (k : Kind) (ts : List Todo) → HasKind rules (scope_kinds s) (Element a part (body_view b.now)) k → AreTodos rules at s k ts → IsPart a (code.Right (binary.Element part) b) ts
  asks_element a part b k ts x h = by_kind k x h
    where
      by_kind : (k : Kind) → HasKind rules (scope_kinds s) (Element a part (body_view b.now)) k → AreTodos rules at s k ts → IsPart a (code.Right (binary.Element part) b) ts
      by_kind _ (form.widened c d sub x) h = by_kind (model.Class c) x (typed.widened c d sub h)
      by_kind _ (form.widened_all c d sub x) h = by_kind (model.Nodes c) x (typed.widened_all c d sub h)
      by_kind _ (form.element c _ e is x y) h = two_parts a b _ ts (model.Class c) model.Int (model.Class e) (typed.element c part e is) x y h

  pub conjoins : (a : Expr) (b : Bor Body) (k : Kind) (ts : List Todo) → HasKind rules (scope_kinds s) (And a (body_view b.now)) k → AreTodos rules at s k ts → IsPart a (code.And b) ts
  conjoins a b k ts x h = by_kind k x h
    where
      by_kind : (k : Kind) → HasKind rules (scope_kinds s) (And a (body_view b.now)) k → AreTodos rules at s k ts → IsPart a (code.And b) ts
      by_kind _ (form.widened c d sub x) h = by_kind (model.Class c) x (typed.widened c d sub h)
      by_kind _ (form.widened_all c d sub x) h = by_kind (model.Nodes c) x (typed.widened_all c d sub h)
      by_kind _ (form.and x y) h = one_part a _ ts model.Truth model.Truth x (typed.and s b y) h

  pub disjoins : (a : Expr) (b : Bor Body) (k : Kind) (ts : List Todo) → HasKind rules (scope_kinds s) (Or a (body_view b.now)) k → AreTodos rules at s k ts → IsPart a (code.Or b) ts
  disjoins a b k ts x h = by_kind k x h
    where
      by_kind : (k : Kind) → HasKind rules (scope_kinds s) (Or a (body_view b.now)) k → AreTodos rules at s k ts → IsPart a (code.Or b) ts
      by_kind _ (form.widened c d sub x) h = by_kind (model.Class c) x (typed.widened c d sub h)
      by_kind _ (form.widened_all c d sub x) h = by_kind (model.Nodes c) x (typed.widened_all c d sub h)
      by_kind _ (form.or x y) h = one_part a _ ts model.Truth model.Truth x (typed.or s b y) h

  pub chooses : (e : Expr) (a b : Bor Body) (k : Kind) (ts : List Todo) → HasKind rules (scope_kinds s) (Choose e (body_view a.now) (body_view b.now)) k → AreTodos rules at s k ts → IsPart e (code.Choose a b) ts
  chooses e a b k ts x h = by_kind k x h
    where
      by_kind : (k : Kind) → HasKind rules (scope_kinds s) (Choose e (body_view a.now) (body_view b.now)) k → AreTodos rules at s k ts → IsPart e (code.Choose a b) ts
      by_kind _ (form.widened c d sub x) h = by_kind (model.Class c) x (typed.widened c d sub h)
      by_kind _ (form.widened_all c d sub x) h = by_kind (model.Nodes c) x (typed.widened_all c d sub h)
      by_kind _ (form.choose k x y z) h = one_part e _ ts model.Truth k x (typed.choose s k a b y z) h

  pub calls : (a : Expr) (attribute : ℕ) (bs : Bor (List Body)) (k : Kind) (ts : List Todo) → HasKind rules (scope_kinds s) (Call a attribute (bodies_view bs.now)) k → AreTodos rules at s k ts → IsPart a (code.Arguments attribute bs) ts
  calls a attribute bs k ts x h = by_kind k x h
    where
      by_kind : (k : Kind) → HasKind rules (scope_kinds s) (Call a attribute (bodies_view bs.now)) k → AreTodos rules at s k ts → IsPart a (code.Arguments attribute bs) ts
      by_kind _ (form.widened c d sub x) h = by_kind (model.Class c) x (typed.widened c d sub h)
      by_kind _ (form.widened_all c d sub x) h = by_kind (model.Nodes c) x (typed.widened_all c d sub h)
      by_kind k (form.call c _ d is sub x xs) h = one_part a _ ts (model.Class c) k x (typed.arguments s c attribute d bs is sub xs) h

  pub exists : (a : Expr) (part : ℕ) (b : Bor Body) (k : Kind) (ts : List Todo) → HasKind rules (scope_kinds s) (Exists a part (body_view b.now)) k → AreTodos rules at s k ts → IsPart a (code.Elements fold.Exists part b) ts
  exists a part b k ts x h = by_kind k x h
    where
      by_kind : (k : Kind) → HasKind rules (scope_kinds s) (Exists a part (body_view b.now)) k → AreTodos rules at s k ts → IsPart a (code.Elements fold.Exists part b) ts
      by_kind _ (form.widened c d sub x) h = by_kind (model.Class c) x (typed.widened c d sub h)
      by_kind _ (form.widened_all c d sub x) h = by_kind (model.Nodes c) x (typed.widened_all c d sub h)
      by_kind _ (form.exists c _ e is x y) h = one_part a _ ts (model.Class c) model.Truth x (typed.elements s c part e fold.Exists model.Truth model.Truth b is typed.exists y) h

  pub first : (a : Expr) (part : ℕ) (b : Bor Body) (k : Kind) (ts : List Todo) → HasKind rules (scope_kinds s) (First a part (body_view b.now)) k → AreTodos rules at s k ts → IsPart a (code.Elements fold.First part b) ts
  first a part b k ts x h = by_kind k x h
    where
      by_kind : (k : Kind) → HasKind rules (scope_kinds s) (First a part (body_view b.now)) k → AreTodos rules at s k ts → IsPart a (code.Elements fold.First part b) ts
      by_kind _ (form.widened c d sub x) h = by_kind (model.Class c) x (typed.widened c d sub h)
      by_kind _ (form.widened_all c d sub x) h = by_kind (model.Nodes c) x (typed.widened_all c d sub h)
      by_kind _ (form.first c _ e is x y) h = one_part a _ ts (model.Class c) (model.Class e) x (typed.elements s c part e fold.First model.Truth (model.Class e) b is typed.first y) h

  pub sums : (a : Expr) (part : ℕ) (b : Bor Body) (total : ℤ) (k : Kind) (ts : List Todo) → IsInt32 total → HasKind rules (scope_kinds s) (Sum a part (body_view b.now)) k → AreTodos rules at s k ts → IsPart a (code.Elements (fold.Sum total) part b) ts
  sums a part b total k ts int x h = by_kind k x h
    where
      by_kind : (k : Kind) → HasKind rules (scope_kinds s) (Sum a part (body_view b.now)) k → AreTodos rules at s k ts → IsPart a (code.Elements (fold.Sum total) part b) ts
      by_kind _ (form.widened c d sub x) h = by_kind (model.Class c) x (typed.widened c d sub h)
      by_kind _ (form.widened_all c d sub x) h = by_kind (model.Nodes c) x (typed.widened_all c d sub h)
      by_kind _ (form.sum c _ e is x y) h = one_part a _ ts (model.Class c) model.Int x (typed.elements s c part e (fold.Sum total) model.Int model.Int b is (typed.sum total int) y) h

module _ (rules : Rules) (at : ClassAt ℕ) where
  -- a part of an expression is entered, for a use of its value
  pub part_enters : (t : Trial) (b part : Body) (what : Todo) (e : Expr) → body_view b ≡ e →
      ((s : PlaceKinds) (k : Kind) → HasKind rules (scope_kinds s) e k → AreTodos rules at s k t.todo → IsPart rules at s (body_view part) what t.todo) →
      Enters rules at t b → Enters rules at (record t { todo = what ∷ t.todo }) part
  part_enters t b part what e is parts x =
      let p = parts x.kinds x.kind (subst (λ z. HasKind rules (scope_kinds x.kinds) z x.kind) is x.is) x.stands.todo in
      record { kinds = x.kinds; kind = p.kind; is = p.is; stands = record { place = x.stands.place; todo = p.todo } }

  -- and is what comes next
  pub put_typed : {E : Type 0} (res : Result Now E) (t new : Trial) (part : Bor Body) (what : Todo) → Put res t new part what →
      Enters rules at (record t { todo = what ∷ t.todo }) part.now → IfOk res (λ now. IsTypedNow rules at now new)
  put_typed (Err e) t new part what h x = tt
  put_typed (Ok now) t new part what (is, becomes) x = rw (is, becomes) x

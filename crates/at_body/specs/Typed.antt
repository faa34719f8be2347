-- What is left of an evaluation, by the kinds of its values.
use Rattle.std.specs.Prelude.{◌≡◌, ◌<◌, ℕ, ℤ, Bool, true, length, List, [], ◌∷◌, ◌++◌, map, Option, Some, IsSome, IfSome, option_and_then, slice_get, ⊤}
use Rattle.std.specs.List.{AllByRecursion}
use Rattle.std.specs.Borrow.{Bor}
use Rattle.std.specs.Global.{Box}
use Rattle.at_model.specs.Classes.{Classes, TokenKind, Many, Maybe, Token, is_sub}
use Rattle.at_model.specs.Run.{Value, Instance, Contents, Known, Run, Gives, Fails, Looks}
use Rattle.at_model.specs.Rules.{Rules, Kind, Int, Truth, Text, Class, Nodes, Attribute}
use Rattle.at_model.specs.Kinds.{ScopeKinds, HasKind, HaveKinds, AreComparable, shape_of_part, single_class, kind_of_token}
use Rattle.at_model.specs.TypedRuns.{ClassAt, class_at, class_numbered, IsNodeOf, IsOfKind, AreArguments, AreContentsTyped, IsOfItsKind, IsWellTyped}
use Rattle.at_model.specs.WellFormed.{IsHierarchy}
use Rattle.at_model.specs.Terms.{IsInt32}
use Rattle.at_model.specs.Bodies.{Exprs, no_exprs}
use Rattle.at_model.specs.Instances.{AnyText}
use Rattle.at_store.specs.Shown.{IsIdle, Shown, path, tree}
use Rattle.at_rules.specs.Bodies.{body_view, bodies_view}
use Rattle.at_rules.specs.declared.body.Body.{Body}
use Rattle.at_rules.specs.declared.body.Lookup.{Lookup}
use Rattle.at_rules.specs.declared.body.Operator.{Operator}
use Rattle.at_rules.specs.declared.body.Order.{Order}
use Rattle.at_body.specs.declared.value.Value.{Value as ValueCode}
use Rattle.at_body.specs.declared.todo.Unary.{Unary}
use Rattle.at_body.specs.declared.todo.Unary.TheVariants as unary
use Rattle.at_body.specs.declared.todo.Binary.{Binary}
use Rattle.at_body.specs.declared.todo.Binary.TheVariants as binary
use Rattle.at_body.specs.declared.todo.Fold.{Fold}
use Rattle.at_body.specs.declared.todo.Fold.TheVariants as fold
use Rattle.at_body.specs.declared.candidates.Candidates.{Candidates}
use Rattle.at_body.specs.declared.todo.Asking.{Asking}
use Rattle.at_body.specs.declared.todo.Search.{Search}
use Rattle.at_body.specs.declared.todo.Todo.{Todo}
use Rattle.at_body.specs.declared.todo.Todo.TheVariants.{Use, Right, Apply, And, Or, Choose, Arguments, Argument, Elements, Element, Under, Among}
use Rattle.at_body.specs.declared.todo.Now.{Now}
use Rattle.at_body.specs.declared.todo.Now.TheVariants.{Enter, Back, Fail, Ask}
use Rattle.at_body.specs.declared.trial.Trial.{Trial}
use Rattle.at_body.specs.declared.trial.Step.{Step}
use Rattle.at_body.specs.declared.trial.Step.TheVariants as step
use Rattle.at_body.specs.Standing.{Place}
use Rattle.at_body.specs.ValueKinds.{IsInt, IsTruth, IsText, IsRef, AreAlike}
use Rattle.at_body.specs.Values.{value_view, fault_view}
use Rattle.at_body.specs.Rest.{place_of}
use Rattle.at_body.specs.Seeking.{candidates, fold_of}

-- values --------------------------------------------------------------------------------------------------------------

-- the class of each node that a store shows
abbrev pub class_shown : Shown → ClassAt ℕ
class_shown s = class_numbered (path s) (class_at (tree s))

-- what is done with one value may be done with that one
abbrev pub IsOperand : Unary → Value ℕ → Type 0
IsOperand unary.Negate v = IsInt v
IsOperand unary.Not v = IsTruth v
IsOperand unary.Passed v = ⊤
IsOperand u v = IsRef v

-- what is done with two values may be done with these
abbrev pub AreOperands : Binary → Value ℕ → Value ℕ → Type 0
AreOperands (binary.Arithmetic o) v w = IsInt v × IsInt w
AreOperands (binary.Compare o) v w = IsInt v × IsInt w
AreOperands binary.Join v w = IsText v × IsText w
AreOperands binary.JoinInt v w = IsText v × IsInt w
AreOperands binary.Same v w = AreAlike v w
AreOperands binary.Differ v w = AreAlike v w
AreOperands binary.Equals v w = IsText v × IsText w
AreOperands (binary.Element part) v w = IsRef v × IsInt w

-- a fold may be told that value of its expression
abbrev pub IsTold : Fold → Value ℕ → Type 0
IsTold (fold.Sum total) v = IsInt v
IsTold f v = IsTruth v

-- an evaluation that demands nothing comes to that
abbrev pub ComesTo : Contents ℕ → Run ℕ (Value ℕ) → Now → Type 0
ComesTo look (Gives v) (Back w) = v ≡ value_view w
ComesTo look (Fails f) (Fail g) = f ≡ fault_view g
ComesTo look (Looks l k) now = ComesTo look (k (look l)) now
ComesTo look r now = ⊥

-- rules over what is looked at: the classes are a hierarchy, and what stands at the nodes that are there is of the right kinds
pub record IsOver (rules : Rules) (at : ClassAt ℕ) (look : Contents ℕ) : Type 0 where
  pub hierarchy : IsHierarchy rules.classes
  pub contents : AreContentsTyped rules.classes at AnyText look

-- places --------------------------------------------------------------------------------------------------------------

-- the kinds where an expression stands: the class of `this`, the classes of the nodes bound by folds, the innermost first,
-- the kinds of what was passed, and whether there is an index name
pub record PlaceKinds : Type 0 where
  pub this : ℕ
  pub bound : List ℕ
  pub passed : List Kind
  pub has_index : Bool

-- the kinds of the bound nodes and then of what was passed
abbrev pub name_kinds : List ℕ → List Kind → List Kind
name_kinds [] ks = ks
name_kinds (c ∷ cs) ks = Class c ∷ name_kinds cs ks

abbrev pub scope_kinds : PlaceKinds → ScopeKinds
scope_kinds s = record { this = s.this; names = name_kinds s.bound s.passed; has_index = s.has_index }

-- inside a fold over nodes of the class
abbrev pub kinds_inside : PlaceKinds → ℕ → PlaceKinds
kinds_inside s c = record s { bound = c ∷ s.bound }

-- each bound node is of its class
abbrev pub AreBound : Classes → ClassAt ℕ → List ℕ → List ℕ → Type 0
AreBound classes at [] [] = ⊤
AreBound classes at (n ∷ ns) (c ∷ cs) = IsNodeOf classes at n c × AreBound classes at ns cs
AreBound classes at ns cs = ⊥

-- `this`, the bound nodes and what was passed have the kinds; the child on the way down is there, where there is one, as
-- there is where there is an index name
pub record IsPlaceOf (classes : Classes) (at : ClassAt ℕ) (s : PlaceKinds) (p : Place) : Type 0 where
  pub this : IsNodeOf classes at p.this s.this
  pub bound : AreBound classes at p.bound s.bound
  pub passed : AreArguments classes at AnyText (map value_view p.passed) s.passed
  pub child : IfSome p.child (λ n. IsSome (at n))
  pub index : s.has_index ≡ true → IsSome p.child

-- uses of values ------------------------------------------------------------------------------------------------------

-- what is done with a value of the first kind gives one of the second
pub data IsUse (rules : Rules) : Kind → Unary → Kind → Type 0 where
  negate : IsUse rules Int unary.Negate Int
  opposite : IsUse rules Truth unary.Not Truth
  instance_of : (c class : ℕ) → class < length rules.classes → IsUse rules (Class c) (unary.InstanceOf class) Truth
  cast_to : (c class : ℕ) → class < length rules.classes → IsUse rules (Class c) (unary.CastTo class) (Class class)
  child : (c part b : ℕ) → option_and_then single_class (shape_of_part rules.classes c part) ≡ Some b → IsUse rules (Class c) (unary.Child part) (Class b)
  count : (c part b : ℕ) → shape_of_part rules.classes c part ≡ Some (Many b) → IsUse rules (Class c) (unary.Count part) Int
  has : (c part b : ℕ) → shape_of_part rules.classes c part ≡ Some (Maybe b) → IsUse rules (Class c) (unary.Has part) Truth
  token : (c part : ℕ) (kind : TokenKind) → shape_of_part rules.classes c part ≡ Some (Token kind)
      → IsUse rules (Class c) (unary.Token part) (kind_of_token kind)
  handed_on : (k : Kind) → IsUse rules k unary.Passed k

-- of values of the first two kinds, the left one first, it gives one of the third
pub data IsOperation (rules : Rules) : Kind → Kind → Binary → Kind → Type 0 where
  arithmetic : (o : Operator) → IsOperation rules Int Int (binary.Arithmetic o) Int
  compare : (o : Order) → IsOperation rules Int Int (binary.Compare o) Truth
  join : IsOperation rules Text Text binary.Join Text
  join_int : IsOperation rules Text Int binary.JoinInt Text
  same : (k l : Kind) → AreComparable k l → IsOperation rules k l binary.Same Truth
  differ : (k l : Kind) → AreComparable k l → IsOperation rules k l binary.Differ Truth
  equals : IsOperation rules Text Text binary.Equals Truth
  element : (c part b : ℕ) → shape_of_part rules.classes c part ≡ Some (Many b) → IsOperation rules (Class c) Int (binary.Element part) (Class b)

-- over nodes of the class, with an expression of the first kind, the fold comes to a value of the second
pub data IsFold (classes : Classes) (at : ClassAt ℕ) (b : ℕ) : Fold → Kind → Kind → Type 0 where
  exists : IsFold classes at b fold.Exists Truth Truth
  first : IsFold classes at b fold.First Truth (Class b)
  sum : (total : ℤ) → IsInt32 total → IsFold classes at b (fold.Sum total) Int Int

-- what is left to do -------------------------------------------------------------------------------------------------

-- from the kinds where it stands and the kind of the value that it waits for, to those of what comes after it
pub data IsTodo (rules : Rules) (at : ClassAt ℕ) : PlaceKinds → Kind → Todo → PlaceKinds → Kind → Type 0 where
  used : (s : PlaceKinds) (k l : Kind) (u : Unary) → IsUse rules k u l → IsTodo rules at s k (Use u) s l
  right : (s : PlaceKinds) (k l m : Kind) (o : Binary) (b : Bor Body) → IsOperation rules k l o m →
      HasKind rules (scope_kinds s) (body_view b.now) l → IsTodo rules at s k (Right o b) s m
  apply : (s : PlaceKinds) (k l m : Kind) (o : Binary) (v : ValueCode) → IsOperation rules k l o m →
      IsOfKind rules.classes at (value_view v) k → IsTodo rules at s l (Apply o v) s m
  and : (s : PlaceKinds) (b : Bor Body) → HasKind rules (scope_kinds s) (body_view b.now) Truth → IsTodo rules at s Truth (And b) s Truth
  or : (s : PlaceKinds) (b : Bor Body) → HasKind rules (scope_kinds s) (body_view b.now) Truth → IsTodo rules at s Truth (Or b) s Truth
  choose : (s : PlaceKinds) (k : Kind) (a b : Bor Body) → HasKind rules (scope_kinds s) (body_view a.now) k →
      HasKind rules (scope_kinds s) (body_view b.now) k → IsTodo rules at s Truth (Choose a b) s k
  arguments : (s : PlaceKinds) (c attribute : ℕ) (d : Attribute) (bs : Bor (List Body)) → slice_get rules.attributes attribute ≡ Some d →
      is_sub rules.classes c d.class ≡ true → HaveKinds rules (scope_kinds s) (bodies_view bs.now) d.parameters →
      IsTodo rules at s (Class c) (Arguments attribute bs) s d.result
  argument : (s : PlaceKinds) (c : ℕ) (d : Attribute) (call : Box Asking) (bs : Bor (List Body)) (ks : List Kind) (k : Kind) (ls : List Kind) →
      slice_get rules.attributes call.value.attribute ≡ Some d → is_sub rules.classes c d.class ≡ true → d.parameters ≡ ks ++ k ∷ ls →
      IfSome call.value.node (λ m. IsNodeOf rules.classes at m c) → AreArguments rules.classes at AnyText (map value_view call.value.done.items) ks →
      HaveKinds rules (scope_kinds s) (bodies_view bs.now) ls → IsTodo rules at s k (Argument call bs) s d.result
  elements : (s : PlaceKinds) (c part b : ℕ) (f : Fold) (k m : Kind) (e : Bor Body) → shape_of_part rules.classes c part ≡ Some (Many b) →
      IsFold rules.classes at b f k m → HasKind rules (scope_kinds (kinds_inside s b)) (body_view e.now) k →
      IsTodo rules at s (Class c) (Elements f part e) s m
  at_element : (s : PlaceKinds) (b : ℕ) (f : Fold) (k m : Kind) (e : Bor Body) (n : ℕ) (ns : Bor (List ℕ)) →
      IsFold rules.classes at b f k m → HasKind rules (scope_kinds (kinds_inside s b)) (body_view e.now) k →
      IsNodeOf rules.classes at n b → AllByRecursion (λ m. IsNodeOf rules.classes at m b) ns.now →
      IsTodo rules at (kinds_inside s b) k (Element f e n ns) s m
  under : (s : PlaceKinds) (c b : ℕ) (f : Search) (k m : Kind) (look : Bor Lookup) (e : Bor Body) →
      shape_of_part rules.classes c look.now.part ≡ Some (Many b) →
      IsFold rules.classes at b (fold_of f) k m → HasKind rules (scope_kinds (kinds_inside s b)) (body_view e.now) k →
      IsTodo rules at s (Class c) (Under f look e) s m
  among : (s : PlaceKinds) (b : ℕ) (f : Search) (k m : Kind) (mark : ℕ) (e : Bor Body) (ns : Candidates) →
      IsFold rules.classes at b (fold_of f) k m → HasKind rules (scope_kinds (kinds_inside s b)) (body_view e.now) k →
      AllByRecursion (λ m. IsNodeOf rules.classes at m b) (candidates ns mark) → IsIdle ns.store.now →
      IsTodo rules at (kinds_inside s b) k (Among f mark e ns) s m

-- a stack of things to do waits for a value of the kind; one for a class, or for nodes of it, waits for each class below, too
pub data AreTodos (rules : Rules) (at : ClassAt ℕ) : PlaceKinds → Kind → List Todo → Type 0 where
  ended : (s : PlaceKinds) (k : Kind) → AreTodos rules at s k []
  more : {s s' : PlaceKinds} {k k' : Kind} {t : Todo} {ts : List Todo} → IsTodo rules at s k t s' k' → AreTodos rules at s' k' ts
      → AreTodos rules at s k (t ∷ ts)
  widened : {s : PlaceKinds} {ts : List Todo} (c d : ℕ) → is_sub rules.classes c d ≡ true → AreTodos rules at s (Class d) ts → AreTodos rules at s (Class c) ts
  widened_all : {s : PlaceKinds} {ts : List Todo} (c d : ℕ) → is_sub rules.classes c d ≡ true
      → AreTodos rules at s (Nodes d) ts → AreTodos rules at s (Nodes c) ts

-- trials --------------------------------------------------------------------------------------------------------------

-- the trial stands at a place of these kinds, and waits for a value of the kind
pub record Stands (rules : Rules) (at : ClassAt ℕ) (s : PlaceKinds) (k : Kind) (t : Trial) : Type 0 where
  pub place : IsPlaceOf rules.classes at s (place_of t)
  pub todo : AreTodos rules at s k t.todo

-- the trial may be told the value
pub record Takes (rules : Rules) (at : ClassAt ℕ) (t : Trial) (v : Value ℕ) : Type 0 where
  pub kinds : PlaceKinds
  pub kind : Kind
  pub is : IsOfKind rules.classes at v kind
  pub stands : Stands rules at kinds kind t

-- the trial may go on with the expression
pub record Enters (rules : Rules) (at : ClassAt ℕ) (t : Trial) (b : Body) : Type 0 where
  pub kinds : PlaceKinds
  pub kind : Kind
  pub is : HasKind rules (scope_kinds kinds) (body_view b) kind
  pub stands : Stands rules at kinds kind t

-- the trial uses the value for what stood on top of what is left
pub record Uses (rules : Rules) (at : ClassAt ℕ) (t : Trial) (todo : Todo) (v : Value ℕ) : Type 0 where
  pub kinds : PlaceKinds
  pub kind : Kind
  pub later : PlaceKinds
  pub result : Kind
  pub is : IsOfKind rules.classes at v kind
  pub does : IsTodo rules at kinds kind todo later result
  pub place : IsPlaceOf rules.classes at kinds (place_of t)
  pub rest : AreTodos rules at later result t.todo

-- the trial does that with two values
pub record Operates (rules : Rules) (at : ClassAt ℕ) (t : Trial) (o : Binary) (v w : Value ℕ) : Type 0 where
  pub kinds : PlaceKinds
  pub left : Kind
  pub right : Kind
  pub result : Kind
  pub does : IsOperation rules left right o result
  pub is_left : IsOfKind rules.classes at v left
  pub is_right : IsOfKind rules.classes at w right
  pub stands : Stands rules at kinds result t

-- the trial calls an attribute, with the first arguments done
pub record Calls (rules : Rules) (at : ClassAt ℕ) (t : Trial) (attribute : ℕ) (n : Option ℕ) (done : List (Value ℕ)) (es : Exprs) : Type 0 where
  pub kinds : PlaceKinds
  pub class : ℕ
  pub declaration : Attribute
  pub first : List Kind
  pub others : List Kind
  pub attribute_is : slice_get rules.attributes attribute ≡ Some declaration
  pub declared : is_sub rules.classes class declaration.class ≡ true
  pub parameters : declaration.parameters ≡ first ++ others
  pub node : IfSome n (λ m. IsNodeOf rules.classes at m class)
  pub arguments : AreArguments rules.classes at AnyText done first
  pub are : HaveKinds rules (scope_kinds kinds) es others
  pub stands : Stands rules at kinds declaration.result t

-- the trial is in a fold, with these nodes to go over
pub record GoesOver (rules : Rules) (at : ClassAt ℕ) (t : Trial) (f : Fold) (e : Body) (ns : List ℕ) : Type 0 where
  pub kinds : PlaceKinds
  pub class : ℕ
  pub kind : Kind
  pub result : Kind
  pub folds : IsFold rules.classes at class f kind result
  pub is : HasKind rules (scope_kinds (kinds_inside kinds class)) (body_view e) kind
  pub nodes : AllByRecursion (λ m. IsNodeOf rules.classes at m class) ns
  pub stands : Stands rules at kinds result t

-- and is told the value of the fold's expression at the node before them
pub record Decides (rules : Rules) (at : ClassAt ℕ) (t : Trial) (f : Fold) (e : Body) (n : ℕ) (ns : List ℕ) (v : Value ℕ) : Type 0 where
  pub goes : GoesOver rules at t f e ns
  pub node : IsNodeOf rules.classes at n goes.class
  pub told : IsOfKind rules.classes at v goes.kind

-- the trial begins a fold over the nodes in a component of the node
pub record Folds (rules : Rules) (at : ClassAt ℕ) (t : Trial) (f : Fold) (part : ℕ) (e : Body) (n : Option ℕ) : Type 0 where
  pub goes : GoesOver rules at t f e []
  pub class : ℕ
  pub shape : shape_of_part rules.classes class part ≡ Some (Many goes.class)
  pub node : IfSome n (λ m. IsNodeOf rules.classes at m class)

-- the trial waits for the value of the instance, which is well typed
pub record WaitsFor (rules : Rules) (at : ClassAt ℕ) (t : Trial) (j : Instance ℕ) : Type 0 where
  pub kinds : PlaceKinds
  pub instance : IsWellTyped rules at AnyText j
  pub stands : Stands rules at kinds instance.declaration.result t

-- what it does next is of the right kinds
abbrev pub IsTypedNow : Rules → ClassAt ℕ → Now → Trial → Type 0
IsTypedNow rules at (Enter b) t = Enters rules at t b.now
IsTypedNow rules at (Back v) t = Takes rules at t (value_view v)
IsTypedNow rules at (Fail f) t = ⊤
IsTypedNow rules at (Ask attribute node passed) t = Calls rules at t attribute (Some node) (map value_view passed) no_exprs

-- and so is what it has come to
abbrev pub IsTypedStep : Rules → ClassAt ℕ → Step → Trial → Type 0
IsTypedStep rules at (step.Value v) t = ⊤
IsTypedStep rules at (step.Fault f) t = ⊤
IsTypedStep rules at (step.Need j) t = WaitsFor rules at t j

-- what is known of well-typed instances is of their kinds
abbrev pub AreOfTheirKinds : Rules → ClassAt ℕ → Known ℕ → Type 0
AreOfTheirKinds rules at known = (i : Instance ℕ) (v : Value ℕ) → IsWellTyped rules at AnyText i → known i ≡ Some v → IsOfItsKind rules at i v

-- The kinds of expressions, and rules whose equations have the kinds of their attributes (JastAdd2 reference manual,
-- "Attributes").
use Rattle.std.specs.Prelude.{◌≡◌, ℕ, ◌<◌, ◌≤◌, ℤ, Bool, true, false, List, [], ◌∷◌, length, Option, Some, None, IsSome, IfSome, option_and_then, option_map, slice_get, bytes_eq, ⊤}
use Rattle.std.specs.List.{AllByRecursion}
use Rattle.at_model.specs.Classes.{Classes, TokenKind, Shape, Many, Token, parts, class_in, is_sub}
use Rattle.at_model.specs.Classes as class
use Rattle.at_model.specs.Terms.{IsInt32}
use Rattle.at_model.specs.Drawers.{Key}
use Rattle.at_model.specs.Bodies.{Expr, Exprs, no_exprs, expr, IntLiteral, TruthLiteral, TextLiteral, NullLiteral, This, Name, IndexName, Negate, Not, Operator, Arithmetic, Order, Compare, Join, JoinInt, Same, Differ, And, Or, Choose, Equals, InstanceOf, CastTo, Child, Element, Count, Has, TokenOf, Call, Exists, First, Sum, SeekAny, SeekFirst, AnyOf, FirstOf, SumOf, Gather, Close, Listed, Only, Union, Contains, Over, Children, Parent, Passed}
use Rattle.at_model.specs.Rules.{Rules, Kind, Int, Truth, Text, Class, Nodes, Attribute, OwnEquation, InheritedEquation}

-- components ----------------------------------------------------------------------------------------------------------

-- the shape of a component of a class
abbrev pub shape_of_part : Classes → (class part : ℕ) → Option Shape
shape_of_part classes c part = option_map (λ p. p.shape) (slice_get (parts classes c) part)

-- the class of the trees in a component of a class
abbrev pub class_of_part : Classes → (class part : ℕ) → Option ℕ
class_of_part classes c part = option_and_then class_in (shape_of_part classes c part)

-- the class of the tree in a component with one tree or at most one
abbrev pub single_class : Shape → Option ℕ
single_class (class.One b) = Some b
single_class (class.Maybe b) = Some b
single_class shape = None

-- the kind of a token's value
abbrev pub kind_of_token : TokenKind → Kind
kind_of_token class.Text = Text
kind_of_token class.Int = Int
kind_of_token class.Truth = Truth

-- expressions ---------------------------------------------------------------------------------------------------------

-- the kinds where an expression stands: the class of `this`, the kinds of what the names stand for, and whether there is
-- an index name
pub record ScopeKinds : Type 0 where
  pub this : ℕ
  pub names : List Kind
  pub has_index : Bool

-- inside the braces of a fold over elements of the class
abbrev pub bound_kinds : ScopeKinds → ℕ → ScopeKinds
bound_kinds s c = record s { names = Class c ∷ s.names }

-- `==` may stand between them: two ints, two booleans, nodes of any two classes
pub data AreComparable : Kind → Kind → Type 0 where
  ints : AreComparable Int Int
  truths : AreComparable Truth Truth
  nodes : (c d : ℕ) → AreComparable (Class c) (Class d)

-- the class is above each class, and above that of each component
abbrev pub IsTop : Classes → ℕ → Type 0
IsTop classes d =
    ((c : ℕ) → c < length classes → is_sub classes c d ≡ true)
    × ((c part b : ℕ) → class_of_part classes c part ≡ Some b → is_sub classes b d ≡ true)

-- A text that is an argument is given: a literal, a parameter's (no other name stands for a text) or a token's; or it is computed, and
-- then short. So a tree and a question have finitely many instances.
abbrev pub IsArgumentForm : Kind → Expr → Type 0
IsArgumentForm Text (TextLiteral bytes) = ⊤
IsArgumentForm Text (Name i) = ⊤
IsArgumentForm Text (TokenOf e part) = ⊤
IsArgumentForm Text (Passed e) = ⊤
IsArgumentForm Text e = ⊥
IsArgumentForm k e = ⊤

-- The expression has the kind, in a scope of these kinds. What has a class has each class above it, and null has every class;
-- so something may be asked of `null` itself, which is refused where expressions are read.
mutual
  pub data HasKind (rules : Rules) : ScopeKinds → Expr → Kind → Type 0 where
    widened : {s : ScopeKinds} {e : Expr} (c d : ℕ) → is_sub rules.classes c d ≡ true →
        HasKind rules s e (Class c) → HasKind rules s e (Class d)
    widened_all : {s : ScopeKinds} {e : Expr} (c d : ℕ) → is_sub rules.classes c d ≡ true →
        HasKind rules s e (Nodes c) → HasKind rules s e (Nodes d)
    int_literal : {s : ScopeKinds} (n : ℤ) → IsInt32 n → HasKind rules s (IntLiteral n) Int
    truth_literal : {s : ScopeKinds} (b : Bool) → HasKind rules s (TruthLiteral b) Truth
    text_literal : {s : ScopeKinds} (bytes : List ℕ) → HasKind rules s (TextLiteral bytes) Text
    null_literal : {s : ScopeKinds} (c : ℕ) → HasKind rules s NullLiteral (Class c)
    this : {s : ScopeKinds} → HasKind rules s This (Class s.this)
    name : {s : ScopeKinds} {k : Kind} (i : ℕ) → slice_get s.names i ≡ Some k → HasKind rules s (Name i) k
    index_name : {s : ScopeKinds} → s.has_index ≡ true → HasKind rules s IndexName Int
    negate : {s : ScopeKinds} {a : Expr} → HasKind rules s a Int → HasKind rules s (Negate a) Int
    opposite : {s : ScopeKinds} {a : Expr} → HasKind rules s a Truth → HasKind rules s (Not a) Truth
    arithmetic : {s : ScopeKinds} {a b : Expr} (o : Operator) →
        HasKind rules s a Int → HasKind rules s b Int → HasKind rules s (Arithmetic o a b) Int
    compare : {s : ScopeKinds} {a b : Expr} (o : Order) →
        HasKind rules s a Int → HasKind rules s b Int → HasKind rules s (Compare o a b) Truth
    join : {s : ScopeKinds} {a b : Expr} → HasKind rules s a Text → HasKind rules s b Text → HasKind rules s (Join a b) Text
    join_int : {s : ScopeKinds} {a b : Expr} →
        HasKind rules s a Text → HasKind rules s b Int → HasKind rules s (JoinInt a b) Text
    same : {s : ScopeKinds} {a b : Expr} (k l : Kind) → AreComparable k l →
        HasKind rules s a k → HasKind rules s b l → HasKind rules s (Same a b) Truth
    differ : {s : ScopeKinds} {a b : Expr} (k l : Kind) → AreComparable k l →
        HasKind rules s a k → HasKind rules s b l → HasKind rules s (Differ a b) Truth
    and : {s : ScopeKinds} {a b : Expr} → HasKind rules s a Truth → HasKind rules s b Truth → HasKind rules s (And a b) Truth
    or : {s : ScopeKinds} {a b : Expr} → HasKind rules s a Truth → HasKind rules s b Truth → HasKind rules s (Or a b) Truth
    choose : {s : ScopeKinds} {c a b : Expr} (k : Kind) →
        HasKind rules s c Truth → HasKind rules s a k → HasKind rules s b k → HasKind rules s (Choose c a b) k
    equals : {s : ScopeKinds} {a b : Expr} →
        HasKind rules s a Text → HasKind rules s b Text → HasKind rules s (Equals a b) Truth
    instance_of : {s : ScopeKinds} {a : Expr} (c class : ℕ) → class < length rules.classes →
        HasKind rules s a (Class c) → HasKind rules s (InstanceOf a class) Truth
    cast_to : {s : ScopeKinds} {a : Expr} (c class : ℕ) → class < length rules.classes →
        HasKind rules s a (Class c) → HasKind rules s (CastTo class a) (Class class)
    child : {s : ScopeKinds} {a : Expr} (c part b : ℕ) → option_and_then single_class (shape_of_part rules.classes c part) ≡ Some b →
        HasKind rules s a (Class c) → HasKind rules s (Child a part) (Class b)
    element : {s : ScopeKinds} {a i : Expr} (c part b : ℕ) → shape_of_part rules.classes c part ≡ Some (Many b) →
        HasKind rules s a (Class c) → HasKind rules s i Int → HasKind rules s (Element a part i) (Class b)
    count : {s : ScopeKinds} {a : Expr} (c part b : ℕ) → shape_of_part rules.classes c part ≡ Some (Many b) →
        HasKind rules s a (Class c) → HasKind rules s (Count a part) Int
    has : {s : ScopeKinds} {a : Expr} (c part b : ℕ) → shape_of_part rules.classes c part ≡ Some (class.Maybe b) →
        HasKind rules s a (Class c) → HasKind rules s (Has a part) Truth
    token_of : {s : ScopeKinds} {a : Expr} (c part : ℕ) (kind : TokenKind) → shape_of_part rules.classes c part ≡ Some (Token kind) →
        HasKind rules s a (Class c) → HasKind rules s (TokenOf a part) (kind_of_token kind)
    call : {s : ScopeKinds} {a : Expr} {es : Exprs} (c attribute : ℕ) (d : Attribute) →
        slice_get rules.attributes attribute ≡ Some d → is_sub rules.classes c d.class ≡ true →
        HasKind rules s a (Class c) → HaveKinds rules s es d.parameters → HasKind rules s (Call a attribute es) d.result
    exists : {s : ScopeKinds} {a e : Expr} (c part b : ℕ) → shape_of_part rules.classes c part ≡ Some (Many b) →
        HasKind rules s a (Class c) → HasKind rules (bound_kinds s b) e Truth → HasKind rules s (Exists a part e) Truth
    first : {s : ScopeKinds} {a e : Expr} (c part b : ℕ) → shape_of_part rules.classes c part ≡ Some (Many b) →
        HasKind rules s a (Class c) → HasKind rules (bound_kinds s b) e Truth → HasKind rules s (First a part e) (Class b)
    sum : {s : ScopeKinds} {a e : Expr} (c part b : ℕ) → shape_of_part rules.classes c part ≡ Some (Many b) →
        HasKind rules s a (Class c) → HasKind rules (bound_kinds s b) e Int → HasKind rules s (Sum a part e) Int
    listed : {s : ScopeKinds} {a : Expr} (c part b : ℕ) → shape_of_part rules.classes c part ≡ Some (Many b) →
        HasKind rules s a (Class c) → HasKind rules s (Listed a part) (Nodes b)
    only : {s : ScopeKinds} {a : Expr} (c : ℕ) → HasKind rules s a (Class c) → HasKind rules s (Only a) (Nodes c)
    union : {s : ScopeKinds} {a b : Expr} (c : ℕ) →
        HasKind rules s a (Nodes c) → HasKind rules s b (Nodes c) → HasKind rules s (Union a b) (Nodes c)
    contains : {s : ScopeKinds} {a b : Expr} (c d : ℕ) →
        HasKind rules s a (Nodes c) → HasKind rules s b (Class d) → HasKind rules s (Contains a b) Truth
    any_of : {s : ScopeKinds} {a e : Expr} (b : ℕ) →
        HasKind rules s a (Nodes b) → HasKind rules (bound_kinds s b) e Truth → HasKind rules s (Over AnyOf a e) Truth
    first_of : {s : ScopeKinds} {a e : Expr} (b : ℕ) →
        HasKind rules s a (Nodes b) → HasKind rules (bound_kinds s b) e Truth → HasKind rules s (Over FirstOf a e) (Class b)
    sum_of : {s : ScopeKinds} {a e : Expr} (b : ℕ) →
        HasKind rules s a (Nodes b) → HasKind rules (bound_kinds s b) e Int → HasKind rules s (Over SumOf a e) Int
    gather : {s : ScopeKinds} {a e : Expr} (b d : ℕ) →
        HasKind rules s a (Nodes b) → HasKind rules (bound_kinds s b) e (Nodes d) → HasKind rules s (Over Gather a e) (Nodes d)
    close : {s : ScopeKinds} {a e : Expr} (b : ℕ) →
        HasKind rules s a (Nodes b) → HasKind rules (bound_kinds s b) e (Nodes b) → HasKind rules s (Over Close a e) (Nodes b)
    children : {s : ScopeKinds} {a : Expr} (c d : ℕ) → IsTop rules.classes d →
        HasKind rules s a (Class c) → HasKind rules s (Children a) (Nodes d)
    parent : {s : ScopeKinds} {a : Expr} (c d : ℕ) → IsTop rules.classes d →
        HasKind rules s a (Class c) → HasKind rules s (Parent a) (Class d)
    passed : {s : ScopeKinds} {a : Expr} (k : Kind) → HasKind rules s a k → HasKind rules s (Passed a) k
    seek_any : {s : ScopeKinds} {a t e : Expr} (c part b : ℕ) (key : Key) → shape_of_part rules.classes c part ≡ Some (Many b) →
        HasKind rules s a (Class c) → HasKind rules s t Text → HasKind rules (bound_kinds s b) e Truth → HasKind rules s (SeekAny a part key t e) Truth
    seek_first : {s : ScopeKinds} {a t e : Expr} (c part b : ℕ) (key : Key) → shape_of_part rules.classes c part ≡ Some (Many b) →
        HasKind rules s a (Class c) → HasKind rules s t Text → HasKind rules (bound_kinds s b) e Truth → HasKind rules s (SeekFirst a part key t e) (Class b)

  -- the arguments have these kinds, each in its place
  pub data HaveKinds (rules : Rules) : ScopeKinds → Exprs → List Kind → Type 0 where
    no_more : {s : ScopeKinds} → HaveKinds rules s no_exprs []
    argument : {s : ScopeKinds} {e : Expr} {es : Exprs} {k : Kind} {ks : List Kind} → IsArgumentForm k e →
        HasKind rules s e k → HaveKinds rules s es ks → HaveKinds rules s (expr e es) (k ∷ ks)

-- rules ---------------------------------------------------------------------------------------------------------------

-- a parameter is an int, a boolean, a text, or a node of a class that is there
abbrev pub IsParameter : Classes → Kind → Type 0
IsParameter classes Text = ⊤
IsParameter classes (Class c) = c < length classes
IsParameter classes Int = ⊤
IsParameter classes Truth = ⊤
IsParameter classes k = ⊥

-- a class that it names is there
abbrev pub IsKindThere : Classes → Kind → Type 0
IsKindThere classes (Class c) = c < length classes
IsKindThere classes (Nodes c) = c < length classes
IsKindThere classes k = ⊤

-- its class and its kinds are there, it has at most four parameters, and where it is circular it is boolean
pub record IsDeclarationTyped (classes : Classes) (a : Attribute) : Type 0 where
  pub class : a.class < length classes
  pub result : IsKindThere classes a.result
  pub parameters : AllByRecursion (IsParameter classes) a.parameters
  pub few : length a.parameters ≤ 4
  pub boolean : (b : Bool) → a.start ≡ Some b → a.result ≡ Truth

-- The attribute of an own equation is synthesized and one of the class, and the body has its kind, where the names stand for
-- its parameters.
pub record IsOwnTyped (rules : Rules) (e : OwnEquation) : Type 0 where
  pub declaration : Attribute
  pub attribute : slice_get rules.attributes e.attribute ≡ Some declaration
  pub synthesized : declaration.is_inherited ≡ false
  pub declared : is_sub rules.classes e.class declaration.class ≡ true
  pub body : HasKind rules (record { this = e.class; names = declaration.parameters; has_index = false }) e.body declaration.result

-- an inherited attribute of that name
abbrev pub IsInheritedOf : Rules → List ℕ → (attribute : ℕ) → Attribute → Type 0
IsInheritedOf rules text k a = (slice_get rules.attributes k ≡ Some a) × (a.is_inherited ≡ true) × (bytes_eq text a.name ≡ true)

-- the equation stands for one list, and may have an index name
abbrev pub is_for_list : Rules → InheritedEquation → Bool
is_for_list rules e = elim (option_and_then (shape_of_part rules.classes e.class) e.part) [ Some (Many b) ↦ true | shape ↦ false ]

-- An inherited equation stands for a component of the class with trees, or for each one; an inherited attribute has its name,
-- and the body has the kind of each that does.
pub record IsInheritedTyped (rules : Rules) (e : InheritedEquation) : Type 0 where
  pub class : e.class < length rules.classes
  pub part : IfSome e.part (λ part. IsSome (class_of_part rules.classes e.class part))
  pub declared : (k : ℕ) × (a : Attribute) × IsInheritedOf rules e.name k a
  pub body : (k : ℕ) (a : Attribute) → IsInheritedOf rules e.name k a →
      HasKind rules (record { this = e.class; names = a.parameters; has_index = is_for_list rules e }) e.body a.result

-- inherited attributes of one name have the same parameters and the same result
abbrev pub AreInheritedAlike : Rules → Type 0
AreInheritedAlike rules =
    (j k : ℕ) (a b : Attribute) → slice_get rules.attributes j ≡ Some a → slice_get rules.attributes k ≡ Some b →
    a.is_inherited ≡ true → b.is_inherited ≡ true → bytes_eq a.name b.name ≡ true →
    (a.parameters ≡ b.parameters) × (a.result ≡ b.result)

-- the body of each equation has the kind of its attribute, where `this` is of the equation's class and the names stand for
-- what the attribute's parameters are
pub record AreTyped (rules : Rules) : Type 0 where
  pub attributes : AllByRecursion (IsDeclarationTyped rules.classes) rules.attributes
  pub alike : AreInheritedAlike rules
  pub own : AllByRecursion (IsOwnTyped rules) rules.own
  pub inherited : AllByRecursion (IsInheritedTyped rules) rules.inherited

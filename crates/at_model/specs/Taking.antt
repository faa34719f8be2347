-- What each form of expression takes of its parts.
use Rattle.std.specs.Prelude.{◌≡◌, ℕ, true, Some, option_and_then, slice_get, ⊤}
use Rattle.at_model.specs.Classes.{TokenKind, Many, Maybe, Token, is_sub}
use Rattle.at_model.specs.Bodies.{Expr, Negate, Not, Arithmetic, Compare, Join, JoinInt, Same, Differ, And, Or, Choose, Equals, InstanceOf, CastTo, Child, Element, Count, Has, TokenOf, Call, Exists, First, Sum, SeekAny, SeekFirst, Fold, AnyOf, FirstOf, SumOf, Gather, Close, Listed, Only, Union, Contains, Over, Children, Parent, Passed}
use Rattle.at_model.specs.Rules.{Rules, Kind, Int, Truth, Text, Class, Nodes, Attribute}
use Rattle.at_model.specs.Kinds.{ScopeKinds, HasKind, HaveKinds, AreComparable, bound_kinds, shape_of_part, single_class}

-- a node or null
abbrev pub HasNode : Rules → ScopeKinds → Expr → Type 0
HasNode rules s a = (c : ℕ) × HasKind rules s a (Class c)

-- a node whose component is a list, and in the braces a value of the kind for each element
abbrev pub HasFold : Rules → ScopeKinds → Expr → (part : ℕ) → Expr → Kind → Type 0
HasFold rules s a part e k =
    (c : ℕ) × (b : ℕ) × HasKind rules s a (Class c) × (shape_of_part rules.classes c part ≡ Some (Many b)) × HasKind rules (bound_kinds s b) e k

-- nodes, and in the braces a value of the kind for each
abbrev pub HasFoldOver : Rules → ScopeKinds → Expr → Expr → Kind → Type 0
HasFoldOver rules s a e k = (b : ℕ) × HasKind rules s a (Nodes b) × HasKind rules (bound_kinds s b) e k

-- what a fold takes of nodes, and in its braces
abbrev pub TakesOver : Rules → ScopeKinds → Fold → Expr → Expr → Type 0
TakesOver rules s AnyOf a e = HasFoldOver rules s a e Truth
TakesOver rules s FirstOf a e = HasFoldOver rules s a e Truth
TakesOver rules s SumOf a e = HasFoldOver rules s a e Int
TakesOver rules s Gather a e = (d : ℕ) × HasFoldOver rules s a e (Nodes d)
TakesOver rules s Close a e = (b : ℕ) × HasKind rules s a (Nodes b) × HasKind rules (bound_kinds s b) e (Nodes b)

-- nodes of a class in each of the two
abbrev pub HaveNodes : Rules → ScopeKinds → Expr → Expr → Type 0
HaveNodes rules s a b = (c : ℕ) × HasKind rules s a (Nodes c) × HasKind rules s b (Nodes c)

-- two values between which `==` may stand
abbrev pub AreCompared : Rules → ScopeKinds → Expr → Expr → Type 0
AreCompared rules s a b = (k : Kind) × (l : Kind) × AreComparable k l × HasKind rules s a k × HasKind rules s b l

-- what the expression takes of its parts: ints where it computes, booleans where it decides, texts where it joins, nodes where
-- it asks, of a class that has what is asked
abbrev pub Takes : Rules → ScopeKinds → Expr → Type 0
Takes rules s (Negate a) = HasKind rules s a Int
Takes rules s (Not a) = HasKind rules s a Truth
Takes rules s (Arithmetic o a b) = HasKind rules s a Int × HasKind rules s b Int
Takes rules s (Compare o a b) = HasKind rules s a Int × HasKind rules s b Int
Takes rules s (Join a b) = HasKind rules s a Text × HasKind rules s b Text
Takes rules s (JoinInt a b) = HasKind rules s a Text × HasKind rules s b Int
Takes rules s (Same a b) = AreCompared rules s a b
Takes rules s (Differ a b) = AreCompared rules s a b
Takes rules s (And a b) = HasKind rules s a Truth × HasKind rules s b Truth
Takes rules s (Or a b) = HasKind rules s a Truth × HasKind rules s b Truth
Takes rules s (Choose c a b) = HasKind rules s c Truth
Takes rules s (Equals a b) = HasKind rules s a Text × HasKind rules s b Text
Takes rules s (InstanceOf a class) = HasNode rules s a
Takes rules s (CastTo class a) = HasNode rules s a
Takes rules s (Child a part) =
    (c : ℕ) × (b : ℕ) × HasKind rules s a (Class c) × (option_and_then single_class (shape_of_part rules.classes c part) ≡ Some b)
Takes rules s (Element a part i) =
    (c : ℕ) × (b : ℕ) × HasKind rules s a (Class c) × (shape_of_part rules.classes c part ≡ Some (Many b)) × HasKind rules s i Int
Takes rules s (Count a part) = (c : ℕ) × (b : ℕ) × HasKind rules s a (Class c) × (shape_of_part rules.classes c part ≡ Some (Many b))
Takes rules s (Has a part) = (c : ℕ) × (b : ℕ) × HasKind rules s a (Class c) × (shape_of_part rules.classes c part ≡ Some (Maybe b))
Takes rules s (TokenOf a part) =
    (c : ℕ) × (kind : TokenKind) × HasKind rules s a (Class c) × (shape_of_part rules.classes c part ≡ Some (Token kind))
Takes rules s (Call a attribute es) =
    (c : ℕ) × (d : Attribute) × HasKind rules s a (Class c) × (slice_get rules.attributes attribute ≡ Some d)
    × (is_sub rules.classes c d.class ≡ true) × HaveKinds rules s es d.parameters
Takes rules s (Exists a part e) = HasFold rules s a part e Truth
Takes rules s (First a part e) = HasFold rules s a part e Truth
Takes rules s (Sum a part e) = HasFold rules s a part e Int
Takes rules s (Listed a part) = (c : ℕ) × (b : ℕ) × HasKind rules s a (Class c) × (shape_of_part rules.classes c part ≡ Some (Many b))
Takes rules s (Only a) = HasNode rules s a
Takes rules s (Union a b) = HaveNodes rules s a b
Takes rules s (Contains a b) = (c : ℕ) × HasKind rules s a (Nodes c) × HasNode rules s b
Takes rules s (Over fold a e) = TakesOver rules s fold a e
Takes rules s (Children a) = HasNode rules s a
Takes rules s (Parent a) = HasNode rules s a
Takes rules s (Passed a) = (k : Kind) × HasKind rules s a k
Takes rules s (SeekAny a part key t e) = HasFold rules s a part e Truth × HasKind rules s t Text
Takes rules s (SeekFirst a part key t e) = HasFold rules s a part e Truth × HasKind rules s t Text
Takes rules s e = ⊤

-- Evaluations that keep to the kinds. The nodes may be named in any way: what is known is which are there, and their classes.
use Rattle.std.specs.Prelude.{◌≡◌, ℕ, ◌<◌, ◌≤◌, true, List, [], ◌∷◌, length, Option, Some, IsSome, IfSome, option_and_then, option_map, slice_get, ⊤}
use Rattle.std.specs.List.{AllByRecursion}
use Rattle.at_model.specs.Classes.{Classes, TokenKind, Token, is_sub}
use Rattle.at_model.specs.Trees.{Tree, class_of}
use Rattle.at_model.specs.Drawers.{Key}
use Rattle.at_model.specs.Terms.{IsInt32}
use Rattle.at_model.specs.Paths.{Node, tree_at}
use Rattle.at_model.specs.Run.{Value, Instance, Location, Is, Tok, Slot, Up, Idx, Drawer, Contents, Run, Gives, Fails, Looks, Demands}
use Rattle.at_model.specs.Run as run
use Rattle.at_model.specs.Bodies.{Scope, value_of, max_list}
use Rattle.at_model.specs.Rules.{Rules, Kind, Int, Truth, Text, Class, Nodes, Attribute}
use Rattle.at_model.specs.Kinds.{ScopeKinds, shape_of_part, class_of_part, kind_of_token}

-- the class of each node that is there
abbrev pub ClassAt : Type 0 → Type 0
ClassAt N = N → Option ℕ

-- of the nodes of a tree
abbrev pub class_at : Tree → ClassAt Node
class_at t n = option_map class_of (tree_at t n)

-- and of their numbers
abbrev pub class_numbered : (ℕ → Option Node) → ClassAt Node → ClassAt ℕ
class_numbered path at n = option_and_then at (path n)

-- values --------------------------------------------------------------------------------------------------------------

-- the node is there, and of the class or below
abbrev pub IsNodeOf : {N : Type 0} → Classes → ClassAt N → N → ℕ → Type 0
IsNodeOf classes at n b = (c : ℕ) × (at n ≡ Some c) × (is_sub classes c b ≡ true)

-- the value is of the kind: an int of 32 bits, a boolean, a text, a node of the class or below, or null,
-- or at most so many nodes of the class or below
abbrev pub IsOfKind : {N : Type 0} → Classes → ClassAt N → Value N → Kind → Type 0
IsOfKind classes at (run.Int n) Int = IsInt32 n
IsOfKind classes at (run.Truth b) Truth = ⊤
IsOfKind classes at (run.Text bytes) Text = ⊤
IsOfKind classes at (run.Ref n) (Class b) = IfSome n (λ m. IsNodeOf classes at m b)
IsOfKind classes at (run.Nodes ns) (Nodes b) = AllByRecursion (λ m. IsNodeOf classes at m b) ns × (length ns ≤ max_list)
IsOfKind classes at v k = ⊥

-- which texts may be arguments
abbrev pub Texts : Type 1
Texts = List ℕ → Type 0

-- a text is one that may be an argument
abbrev pub IsAllowed : {N : Type 0} → Texts → Value N → Type 0
IsAllowed Allowed (run.Text bytes) = Allowed bytes
IsAllowed Allowed v = ⊤

-- as many values as parameters, each of its kind
abbrev pub AreArguments : {N : Type 0} → Classes → ClassAt N → Texts → List (Value N) → List Kind → Type 0
AreArguments classes at Allowed [] [] = ⊤
AreArguments classes at Allowed (v ∷ vs) (k ∷ ks) = IsOfKind classes at v k × IsAllowed Allowed v × AreArguments classes at Allowed vs ks
AreArguments classes at Allowed vs ks = ⊥

-- instances -----------------------------------------------------------------------------------------------------------

-- its node is there, its attribute is one that the node's class or one above it declares, and its arguments have the kinds
-- of the parameters
pub record IsWellTyped {N : Type 0} (rules : Rules) (at : ClassAt N) (Allowed : Texts) (i : Instance N) : Type 0 where
  pub class : ℕ
  pub declaration : Attribute
  pub node : at i.node ≡ Some class
  pub attribute : slice_get rules.attributes i.attribute ≡ Some declaration
  pub declared : is_sub rules.classes class declaration.class ≡ true
  pub arguments : AreArguments rules.classes at Allowed i.arguments declaration.parameters

-- the value is of the kind of the instance's attribute
abbrev pub IsOfItsKind : {N : Type 0} → Rules → ClassAt N → Instance N → Value N → Type 0
IsOfItsKind rules at i v = (d : Attribute) → slice_get rules.attributes i.attribute ≡ Some d → IsOfKind rules.classes at v d.result

-- evaluations ---------------------------------------------------------------------------------------------------------

-- the node is there, and where a component is looked at it has a token or trees there
abbrev pub IsLocationThere : {N : Type 0} → Classes → ClassAt N → Location N → Type 0
IsLocationThere classes at (Is n) = IsSome (at n)
IsLocationThere classes at (Tok n part) = (kind : TokenKind) × (option_and_then (λ c. shape_of_part classes c part) (at n) ≡ Some (Token kind))
IsLocationThere classes at (Slot n part) = (b : ℕ) × (option_and_then (λ c. class_of_part classes c part) (at n) ≡ Some b)
IsLocationThere classes at (Up n) = IsSome (at n)
IsLocationThere classes at (Idx n) = IsSome (at n)
IsLocationThere classes at (Drawer n part key m) = (b : ℕ) × (option_and_then (λ c. class_of_part classes c part) (at n) ≡ Some b)

-- The evaluation is typed: what it gives is as is said, what it looks at is there, what it demands is well typed, and with
-- whichever value of the attribute's kind comes back, it goes on typed.
abbrev pub IsTypedRun : {N A : Type 0} → Rules → ClassAt N → Texts → Contents N → (A → Type 0) → Run N A → Type 0
IsTypedRun rules at Allowed look Q (Gives a) = Q a
IsTypedRun rules at Allowed look Q (Fails f) = ⊤
IsTypedRun rules at Allowed look Q (Looks l k) = IsLocationThere rules.classes at l × IsTypedRun rules at Allowed look Q (k (look l))
IsTypedRun {N} rules at Allowed look Q (Demands i k) =
    IsWellTyped rules at Allowed i × ((v : Value N) → IsOfItsKind rules at i v → IsTypedRun rules at Allowed look Q (k v))

-- the evaluation of each instance that is well typed is typed, and gives a value of its kind
abbrev pub AreEquationsTyped : {N : Type 0} → Rules → ClassAt N → Texts → Contents N → (Instance N → Run N (Value N)) → Type 0
AreEquationsTyped {N} rules at Allowed look equation =
    (i : Instance N) → IsWellTyped rules at Allowed i → IsTypedRun rules at Allowed look (IsOfItsKind rules at i) (equation i)

-- where expressions stand ---------------------------------------------------------------------------------------------

-- `this` and what the names stand for have the kinds, and the child is there
pub record IsOfScopeKinds {N : Type 0} (classes : Classes) (at : ClassAt N) (Allowed : Texts) (s : ScopeKinds) (scope : Scope N) : Type 0 where
  pub this : IsNodeOf classes at scope.this s.this
  pub names : AreArguments classes at Allowed scope.names s.names
  pub child : IfSome scope.child (λ n. IsSome (at n))

-- What stands at the locations of the nodes that are there: their classes, tokens of their kinds, trees of the classes, and
-- numbers within 32 bits.
pub record AreContentsTyped {N : Type 0} (classes : Classes) (at : ClassAt N) (Allowed : Texts) (look : Contents N) : Type 0 where
  pub class : (n : N) (c : ℕ) → at n ≡ Some c → look (Is n) ≡ c
  pub token : (n : N) (c part : ℕ) (kind : TokenKind) → at n ≡ Some c → shape_of_part classes c part ≡ Some (Token kind) →
      IsOfKind classes at (value_of {N = N} (look (Tok n part))) (kind_of_token kind)
  pub said : (n : N) (part : ℕ) → IsAllowed {N = N} Allowed (value_of (look (Tok n part)))
  pub children : (n : N) (c part b : ℕ) → at n ≡ Some c → class_of_part classes c part ≡ Some b →
      AllByRecursion (λ m. IsNodeOf classes at m b) (look (Slot n part))
  pub parent : (n : N) → IsSome (at n) → IfSome (look (Up n)) (λ p. (c : ℕ) × (at p.0 ≡ Some c) × (c < length classes))
  pub chosen : (n : N) (c part b : ℕ) (key : Key) (m : ℕ) → at n ≡ Some c → class_of_part classes c part ≡ Some b →
      AllByRecursion (λ k. IsNodeOf classes at k b) (look (Drawer n part key m))
  pub few : (n : N) (part : ℕ) → length (look (Slot n part)) < 2147483648
  pub early : (n : N) → IsSome (at n) → look (Idx n) < 2147483648

-- Attributes and their equations: which equation an instance has, and how the instance is evaluated by it (JastAdd2
-- reference manual, "Attributes"; Knuth 1968, "Semantics of context-free languages").
use Rattle.std.specs.Prelude.{◌≡◌, ℕ, zero, suc, ◌+◌, Bool, true, false, ◌&&◌, if◌then◌else◌, nat_eq, List, [], ◌∷◌, ◌++◌, map, Option, Some, None, option_map, option_and_then, IsSome, slice_get, find, position, bytes_eq}
use Rattle.std.specs.Option.{option_or}
use Rattle.at_model.specs.Classes.{Classes, chain, parts, class_in, is_sub, fits}
use Rattle.at_model.specs.Trees.{Tree, class_of}
use Rattle.at_model.specs.Terms.{max_depth}
use Rattle.at_model.specs.Paths.{Node, tree_at}
use Rattle.at_model.specs.Run.{Value, Instance, Is, Up, Null, Run, Fails, Looks}
use Rattle.at_model.specs.Bodies.{Expr, Scope, mentioned, eval}

-- the kinds of values: a class kind has null and every class below, and so have nodes of a class, without null
pub data Kind : Type 0 where
  Int : Kind
  Truth : Kind
  Text : Kind
  Class : (class : ℕ) → Kind
  Nodes : (class : ℕ) → Kind

-- A declaration: syn or inh, with or without lazy, then the result, the class and the name, and the parameters; and the value
-- from which it starts, where it is circular. One name may be declared for several classes, none of which is above another one.
pub record Attribute : Type 0 where
  pub name : List ℕ
  pub class : ℕ
  pub parameters : List Kind
  pub result : Kind
  pub is_lazy : Bool
  pub is_inherited : Bool
  pub start : Option Bool

-- eq C.a(..) = E, or the body of a declaration; the attribute is the position of its declaration
pub record OwnEquation : Type 0 where
  pub class : ℕ
  pub attribute : ℕ
  pub body : Expr

-- eq C.getB(..).a(..) = E; with no part it is eq C.getChild().a(..) = E
pub record InheritedEquation : Type 0 where
  pub class : ℕ
  pub part : Option ℕ
  pub name : List ℕ
  pub body : Expr

-- the classes, the declarations in their order, and the equations
pub record Rules : Type 0 where
  pub classes : Classes
  pub attributes : List Attribute
  pub own : List OwnEquation
  pub inherited : List InheritedEquation

-- what the first element with an answer answers
abbrev pub first_answer : {A B : Type 0} → (A → Option B) → List A → Option B
first_answer f [] = None
first_answer f (a ∷ as') = option_or (f a) (first_answer f as')

-- the equation that a class itself has
abbrev pub own_in : Rules → ℕ → ℕ → Option Expr
own_in rules attribute c = option_map (λ e. e.body) (find (λ e. nat_eq e.class c && nat_eq e.attribute attribute) rules.own)

-- The equation of a class for an attribute of its own nodes: that of the first class upward that has one, so that a subclass
-- overrides (JastAdd2 reference manual, "Attributes").
abbrev pub own_equation : Rules → (class attribute : ℕ) → Option Expr
own_equation rules c attribute = first_answer (own_in rules attribute) (chain rules.classes c)

-- the same component, or both every component
abbrev pub part_eq : Option ℕ → Option ℕ → Bool
part_eq None None = true
part_eq None (Some j) = false
part_eq (Some i) None = false
part_eq (Some i) (Some j) = nat_eq i j

-- the equation that a class itself has for the nodes below a component, or below every one
abbrev pub inherited_in : Rules → List ℕ → Option ℕ → ℕ → Option Expr
inherited_in rules name part c = option_map (λ e. e.body) (find (λ e. nat_eq e.class c && part_eq e.part part && bytes_eq e.name name) rules.inherited)

-- The equation of a class for an attribute of the nodes below a component: that of the first class upward that has one
-- (JastAdd2 reference manual, "Attributes"). In one class the one for the component comes before the one for every component:
-- this order is the project's own.
abbrev pub inherited_equation : Rules → (class part : ℕ) → List ℕ → Option Expr
inherited_equation rules c part name =
    first_answer (λ b. option_or (inherited_in rules name (Some part) b) (inherited_in rules name None b)) (chain rules.classes c)

-- the proper prefixes of the path to a node, the longest first, each with the step behind it
abbrev pub prefixes : Node → List (Node × (ℕ × ℕ))
prefixes [] = []
prefixes (s ∷ ss) = map (λ p. (s ∷ p.0, p.1)) (prefixes ss) ++ ([], s) ∷ []

-- an inherited equation, the node where it stands, and the step from there down
abbrev pub Source : Type 0
Source = Expr × Node × (ℕ × ℕ)

-- the equation that stands at a prefix for the step behind it
abbrev pub source_at : Rules → Tree → List ℕ → Node × (ℕ × ℕ) → Option Source
source_at rules t name p =
    option_and_then (λ u. option_map (λ e. (e, p.0, p.1)) (inherited_equation rules (class_of u) p.1.0 name)) (tree_at t p.0)

-- The inherited equation of a node: at the longest proper prefix of its path whose class has an equation for the
-- attribute and the component of the step behind it.
abbrev pub source_of : Rules → Tree → List ℕ → Node → Option Source
source_of rules t name n = first_answer (source_at rules t name) (prefixes n)

-- the name of an attribute
abbrev pub attribute_name : Rules → ℕ → List ℕ
attribute_name rules attribute = elim (slice_get rules.attributes attribute) [ None ↦ [] | Some a ↦ a.name ]

-- whether the equations of the attribute stand above the node
abbrev pub is_inherited : Rules → ℕ → Bool
is_inherited rules attribute = elim (slice_get rules.attributes attribute) [ None ↦ false | Some a ↦ a.is_inherited ]

-- whether the values of the attribute are kept (JastAdd2 reference manual, "Caching")
abbrev pub is_lazy : Rules → ℕ → Bool
is_lazy rules attribute = elim (slice_get rules.attributes attribute) [ None ↦ false | Some a ↦ a.is_lazy ]

-- the value from which the attribute starts, where it is circular
abbrev pub start_of : Rules → ℕ → Option Bool
start_of rules attribute = elim (slice_get rules.attributes attribute) [ None ↦ None | Some a ↦ a.start ]

-- the classes of these nodes are looked at, and then it goes on
abbrev pub past_nodes : {N A : Type 0} → List N → Run N A → Run N A
past_nodes [] r = r
past_nodes (n ∷ ns) r = Looks (Is n) (λ c. past_nodes ns r)

-- and those of the nodes among the arguments
abbrev pub past_arguments : {N A : Type 0} → List (Value N) → Run N A → Run N A
past_arguments [] r = r
past_arguments (v ∷ vs) r = past_nodes (mentioned v) (past_arguments vs r)

-- by the equation where there is one, else that evaluation
abbrev pub by_equation : {N : Type 0} → Rules → (N → N → Bool) → Scope N → Run N (Value N) → Option Expr → Run N (Value N)
by_equation rules same scope r None = r
by_equation rules same scope r (Some e) = eval rules.classes same e scope

-- From a node upward to the first one whose class has an equation for the attribute and the component passed, where at most
-- this many nodes stand above. With complete rules there is one.
abbrev pub by_inherited : {N : Type 0} → Rules → (N → N → Bool) → List ℕ → List (Value N) → (height : ℕ) → N → Run N (Value N)
by_inherited rules same name vs zero n = Fails Null
by_inherited rules same name vs (suc height) n = Looks (Up n) (elim [
  | None ↦ Fails Null
  | Some p ↦ Looks (Is p.0) (λ c. by_equation rules same (record { this = p.0; names = vs; child = Some n }) (by_inherited rules same name vs height p.0)
      (inherited_equation rules c p.1 name))
])

-- by the node's own equation; with complete rules there is one
abbrev pub by_own : {N : Type 0} → Rules → (N → N → Bool) → Instance N → ℕ → Run N (Value N)
by_own rules same i c = by_equation rules same (record { this = i.node; names = i.arguments; child = None }) (Fails Null) (own_equation rules c i.attribute)

-- The evaluation of an instance in a tree where at most this many nodes stand above one: the node is looked at, the nodes
-- among the arguments, and then its equation is evaluated.
abbrev pub evaluation_within : {N : Type 0} → (height : ℕ) → Rules → (N → N → Bool) → Instance N → Run N (Value N)
evaluation_within height rules same i = Looks (Is i.node) (λ c. past_arguments i.arguments (elim (is_inherited rules i.attribute) [
  | true ↦ by_inherited rules same (attribute_name rules i.attribute) i.arguments height i.node
  | false ↦ by_own rules same i c
]))

-- The evaluation of an instance, in trees within the limits: no node of one has as many nodes above it as `max_depth`. In a deeper
-- tree an inherited equation is looked for among that many nodes above, and where none of them has one it is the fault `null`.
abbrev pub evaluation : {N : Type 0} → Rules → (N → N → Bool) → Instance N → Run N (Value N)
evaluation rules same i = evaluation_within max_depth rules same i

-- the attribute of that name that the class or one above it declares
abbrev pub attribute_named : Rules → ℕ → List ℕ → Option ℕ
attribute_named rules c name = position (λ a. bytes_eq a.name name && is_sub rules.classes c a.class) rules.attributes

-- The name of an attribute that is overloaded: others of its name have other numbers of parameters. Its own number stands behind a
-- slash, which no name has.
abbrev pub name_by : List ℕ → (count : ℕ) → List ℕ
name_by name count = name ++ 47 ∷ (48 + count) ∷ []

-- the name without that number, as lines and replies have it
abbrev pub plain_name : List ℕ → List ℕ
plain_name [] = []
plain_name (b ∷ bs) = if nat_eq b 47 then [] else b ∷ plain_name bs

-- the names of attributes that a question with so many arguments may mean: first the one with as many parameters
abbrev pub names_asked : List ℕ → (count : ℕ) → List (List ℕ)
names_asked name count = name_by name count ∷ name ∷ map (name_by name) (0 ∷ 1 ∷ 2 ∷ 3 ∷ 4 ∷ [])

-- the attribute of that name that is asked with so many arguments: of several the one with as many parameters, if there is one
abbrev pub attribute_asked : Rules → ℕ → List ℕ → (count : ℕ) → Option ℕ
attribute_asked rules c name count = first_answer (attribute_named rules c) (names_asked name count)

-- trees of class d may stand in a component of c for which c has no equation for the attribute
pub record PassesDown (rules : Rules) (name : List ℕ) (c d : ℕ) : Type 0 where
  pub part : ℕ
  pub class : ℕ
  pub trees : option_and_then (λ p. class_in p.shape) (slice_get (parts rules.classes c) part) ≡ Some class
  pub fit : fits rules.classes d class ≡ true
  pub without : inherited_equation rules c part name ≡ None

-- A class is exposed for an inherited attribute where a tree of it may stand with no equation above: it may be the root,
-- or it may stand in a component without equation of a class that is exposed. Class 0 is the start class.
pub data Exposed (rules : Rules) (name : List ℕ) : ℕ → Type 0 where
  as_root : (c : ℕ) → fits rules.classes c 0 ≡ true → Exposed rules name c
  below : (c d : ℕ) → Exposed rules name c → PassesDown rules name c d → Exposed rules name d

-- Each class of which there may be trees has an equation for each of its synthesized attributes, and is exposed for none of
-- its inherited ones. (Which rules are accepted, typed ones with the places of their faults, is defined with the reading of rules.)
pub record AreComplete (rules : Rules) : Type 0 where
  pub synthesized : (c attribute : ℕ) (a : Attribute) → slice_get rules.attributes attribute ≡ Some a → a.is_inherited ≡ false →
      fits rules.classes c a.class ≡ true → IsSome (own_equation rules c attribute)
  pub inherited : (c attribute : ℕ) (a : Attribute) → slice_get rules.attributes attribute ≡ Some a → a.is_inherited ≡ true →
      fits rules.classes c a.class ≡ true → Exposed rules a.name c → ⊥

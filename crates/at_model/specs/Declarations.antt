-- Abstract grammars as they are read (JastAdd2 reference manual, "Abstract syntax"): what they declare, and which fault
-- they have. Of several faults the first code counts, and of it the earliest place.
use Rattle.std.specs.Prelude.{◌≡◌, ℕ, ◌+◌, Bool, true, false, ◌&&◌, ◌||◌, not, nat_le, nat_lt, nat_eq, List, [], ◌∷◌, ◌++◌, length, map, reverse, take, position, Option, Some, None, is_none, is_some, unwrap_or, option_and_then, option_map, if◌then◌else◌, All}
use Rattle.std.specs.List.{slice_get, flat_map, list_any, list_all}
use Rattle.std.specs.Option.{option_or}
use Rattle.std.specs.Str.{bytes_eq}
use lib.Chars.{codes}
use Rattle.at_model.specs.Names.{is_name}
use Rattle.at_model.specs.Classes.{Classes, Class, Component, Shape, TokenKind, Text, Int, Truth, chain_within, parent_of, own_of, parts}
use Rattle.at_model.specs.Classes as class

-- a line and a column
abbrev pub Place : Type 0
Place = ℕ × ℕ

-- how a component is written: B, B*, [B] or <Name:kind>
pub data Form : Type 0 where
  One : Form
  Many : Form
  Maybe : Form
  Tok : Form

-- a component: its kind is the name of a class, or of a token's kind
pub record PartDeclaration : Type 0 where
  pub name : List ℕ
  pub kind : List ℕ
  pub form : Form
  pub at : Place

pub record Declaration : Type 0 where
  pub name : List ℕ
  pub is_abstract : Bool
  pub parent : Option (List ℕ)
  pub parts : List PartDeclaration
  pub at : Place

abbrev pub Declarations : Type 0
Declarations = List Declaration

-- what the grammar declares ------------------------------------------------------------------------------------------

-- the class of that name is the first that is declared so
abbrev pub class_named : Declarations → List ℕ → Option ℕ
class_named ds name = position (λ d. bytes_eq name d.name) ds

abbrev pub token_kind_named : List ℕ → Option TokenKind
token_kind_named word =
    if bytes_eq word (codes "String") then Some Text
    else (if bytes_eq word (codes "int") then Some Int
    else (if bytes_eq word (codes "boolean") then Some Truth
    else None))

abbrev pub shape_in : Form → ℕ → TokenKind → Shape
shape_in One c kind = class.One c
shape_in Many c kind = class.Many c
shape_in Maybe c kind = class.Maybe c
shape_in Tok c kind = class.Token kind

-- the component that is declared, where `named` says which class a name names; a word that names nothing, which is a
-- fault, stands for the first class and for String
abbrev pub component_by : (List ℕ → Option ℕ) → PartDeclaration → Component
component_by named p = record { name = p.name; shape = shape_in p.form (unwrap_or (named p.kind) 0) (unwrap_or (token_kind_named p.kind) Text); fixed = None }

abbrev pub class_by : (List ℕ → Option ℕ) → Declaration → Class
class_by named d = record { name = d.name; is_abstract = d.is_abstract; parent = option_and_then named d.parent; own = map (component_by named) d.parts }

-- the classes that the grammar declares
unfoldable pub classes_of : Declarations → Classes
classes_of ds = map (class_by (class_named ds)) ds

-- which fault it has -------------------------------------------------------------------------------------------------

-- what the function gives at the first position, counted from k, at which it gives something
abbrev pub first_given : {A B : Type 0} → (ℕ → A → Option B) → ℕ → List A → Option B
first_given f k [] = None
first_given f k (x ∷ xs) = option_or (f k x) (first_given f (k + 1) xs)

-- the place of the first class that fails the test
abbrev pub first_class : (ℕ → Declaration → Bool) → Declarations → Option Place
first_class is_fault ds = first_given (λ c d. if is_fault c d then Some d.at else None) 0 ds

-- the place of the first component that fails the test
abbrev pub first_part : (ℕ → ℕ → PartDeclaration → Bool) → Declarations → Option Place
first_part is_fault ds = first_given (λ c d. first_given (λ i p. if is_fault c i p then Some p.at else None) 0 d.parts) 0 ds

-- G9: nothing is declared
unfoldable pub no_class : Declarations → Option Place
no_class [] = Some (1, 1)
no_class (d ∷ ds) = None

-- the names that every tree's classes have already
abbrev pub is_predefined : List ℕ → Bool
is_predefined name = bytes_eq name (codes "ASTNode") || bytes_eq name (codes "List") || bytes_eq name (codes "Opt")

-- G2: a class is declared twice, or named as one of those
unfoldable pub class_twice : Declarations → Option Place
class_twice ds = first_class (λ c d. is_predefined d.name || list_any (λ e. bytes_eq d.name e.name) (take c ds)) ds

abbrev pub is_parent_known : (List ℕ → Option ℕ) → Option (List ℕ) → Bool
is_parent_known named None = true
is_parent_known named (Some name) = is_some (named name)

abbrev pub is_token : Form → Bool
is_token One = false
is_token Many = false
is_token Maybe = false
is_token Tok = true

abbrev pub is_part_known : (List ℕ → Option ℕ) → PartDeclaration → Bool
is_part_known named p = is_token p.form || is_some (named p.kind)

-- the superclass, and the class of each component, is a class that is declared
abbrev pub is_known : (List ℕ → Option ℕ) → Declaration → Bool
is_known named d = is_parent_known named d.parent && list_all (is_part_known named) d.parts

-- G3: one of those is not declared
unfoldable pub unknown_class : Declarations → Option Place
unknown_class ds = first_class (λ c d. not (is_known (class_named ds) d)) ds

-- the superclass, its superclass and so on: no circle is longer than there are classes
abbrev pub above : Classes → ℕ → List ℕ
above classes c = chain_within (length classes) classes (parent_of classes c)

-- G4: a class is above itself
unfoldable pub superclass_circle : Declarations → Option Place
superclass_circle ds = first_class (λ c d. list_any (nat_eq c) (above (classes_of ds) c)) ds

-- G6: a token's kind is none of the three
unfoldable pub token_kind : Declarations → Option Place
token_kind ds = first_part (λ c i p. is_token p.form && is_none (token_kind_named p.kind)) ds

abbrev pub is_list : Shape → Bool
is_list (class.One c) = false
is_list (class.Many c) = true
is_list (class.Maybe c) = false
is_list (class.Token kind) = false

-- a list takes the names of its accessors: how many it has, and all of it
abbrev pub takes : Component → List ℕ → Bool
takes p name = is_list p.shape && (bytes_eq name (codes "Num" ++ p.name) || bytes_eq name (p.name ++ codes "List"))

-- the two cannot be components of one class
abbrev pub clash : Component → Component → Bool
clash p q = bytes_eq p.name q.name || takes p q.name || takes q p.name

-- the names that every tree's accessors have already
abbrev pub is_common : List ℕ → Bool
is_common name = bytes_eq name (codes "Child") || bytes_eq name (codes "Parent") || bytes_eq name (codes "NumChild")

-- the components of the classes above, those of the highest first
abbrev pub inherited : Classes → ℕ → List Component
inherited classes c = flat_map (own_of classes) (reverse (above classes c))

-- the component clashes with one of these, or with what every tree has
abbrev pub is_taken : List Component → Component → Bool
is_taken before p = is_common p.name || list_any (clash p) before

-- the class's own component at that position is taken by those before it
abbrev pub is_twice : Classes → ℕ → ℕ → Bool
is_twice classes c i = elim (slice_get (own_of classes c) i) [ None ↦ false | Some p ↦ is_taken (inherited classes c ++ take i (own_of classes c)) p ]

-- G5: a component stands twice
unfoldable pub component_twice : Declarations → Option Place
component_twice ds = first_part (λ c i p. is_twice (classes_of ds) c i) ds

abbrev pub max_classes : ℕ
max_classes = 1000

abbrev pub max_parts : ℕ
max_parts = 32

-- G8: more classes than that, or more components in one
unfoldable pub over_limit : Declarations → Option Place
over_limit ds = first_class (λ c d. nat_le max_classes c || nat_lt max_parts (length (parts (classes_of ds) c))) ds

pub data Code : Type 0 where
  NoClass : Code
  ClassTwice : Code
  UnknownClass : Code
  SuperclassCircle : Code
  TokenKindCode : Code
  ComponentTwice : Code
  Limit : Code

pub record Fault : Type 0 where
  pub code : Code
  pub at : Place

abbrev pub coded : Code → Option Place → Option Fault
coded code place = option_map (λ at. record { code = code; at = at }) place

abbrev pub first_of : {A : Type 0} → List (Option A) → Option A
first_of [] = None
first_of (x ∷ xs) = option_or x (first_of xs)

-- the fault that the grammar is refused for: the first code that applies, at its earliest place
unfoldable pub first_fault : Declarations → Option Fault
first_fault ds = first_of
    (coded NoClass (no_class ds)
    ∷ coded ClassTwice (class_twice ds)
    ∷ coded UnknownClass (unknown_class ds)
    ∷ coded SuperclassCircle (superclass_circle ds)
    ∷ coded TokenKindCode (token_kind ds)
    ∷ coded ComponentTwice (component_twice ds)
    ∷ coded Limit (over_limit ds)
    ∷ [])

-- the names -----------------------------------------------------------------------------------------------------------

-- the class and its components are named by names
pub record IsDeclarationNamed (d : Declaration) : Type 0 where
  pub name : is_name d.name ≡ true
  pub parts : All (λ p. is_name p.name ≡ true) d.parts

abbrev pub AreNamed : Declarations → Type 0
AreNamed = All IsDeclarationNamed

-- What the rules of grammars say, in words of their own: what holds of a grammar that isn't refused, rule by rule in the order in which
-- they are looked at. `Declarations` has the tests, and the places.
use Rattle.std.specs.Prelude.{◌≡◌, ℕ, ◌<◌, ◌≤◌, ◌⊎◌, List, ◌++◌, length, Some}
use Rattle.std.specs.List.{slice_get}
use lib.Chars.{codes}
use Rattle.at_model.specs.Classes.{Classes, Component, Many, parent_of, parts}
use Rattle.at_model.specs.Declarations.{Declarations, Declaration, PartDeclaration, Tok, classes_of, max_classes, max_parts, Code, NoClass, ClassTwice, UnknownClass, SuperclassCircle, TokenKindCode, ComponentTwice, Limit}

-- it is none of these three
abbrev pub IsNoneOf : List ℕ → (a b c : List ℕ) → Type 0
IsNoneOf name a b c = (name ≡ a → ⊥) × (name ≡ b → ⊥) × (name ≡ c → ⊥)

-- G2: each class has a name of its own, and none that every tree's classes have already
pub record AreClassesApart (ds : Declarations) : Type 0 where
  pub apart : (b c : ℕ) (d e : Declaration) → slice_get ds b ≡ Some d → slice_get ds c ≡ Some e → d.name ≡ e.name → b ≡ c
  pub free : (c : ℕ) (d : Declaration) → slice_get ds c ≡ Some d → IsNoneOf d.name (codes "ASTNode") (codes "List") (codes "Opt")

-- a class of that name is declared
abbrev pub IsOfClass : Declarations → List ℕ → Type 0
IsOfClass ds name = (c : ℕ) × (d : Declaration) × (slice_get ds c ≡ Some d) × (name ≡ d.name)

-- G3: each superclass is declared, and the class of each component that is no token
pub record AreClassesKnown (ds : Declarations) : Type 0 where
  pub parents : (c : ℕ) (d : Declaration) (name : List ℕ) → slice_get ds c ≡ Some d → d.parent ≡ Some name → IsOfClass ds name
  pub parts : (c i : ℕ) (d : Declaration) (p : PartDeclaration) → slice_get ds c ≡ Some d → slice_get d.parts i ≡ Some p → (p.form ≡ Tok → ⊥) →
      IsOfClass ds p.kind

-- the class b is above another one: its superclass, or above that
pub data IsAbove (classes : Classes) (b : ℕ) : ℕ → Type 0 where
  next : (c : ℕ) → parent_of classes c ≡ Some b → IsAbove classes b c
  further : (c d : ℕ) → parent_of classes c ≡ Some d → IsAbove classes b d → IsAbove classes b c

-- G4: no class is above itself, however far up
abbrev pub AreClassesBelowOthers : Declarations → Type 0
AreClassesBelowOthers ds = (c : ℕ) → IsAbove (classes_of ds) c c → ⊥

-- G6: each token is a String, an int or a boolean
abbrev pub AreTokensOfKinds : Declarations → Type 0
AreTokensOfKinds ds =
    (c i : ℕ) (d : Declaration) (p : PartDeclaration) → slice_get ds c ≡ Some d → slice_get d.parts i ≡ Some p → p.form ≡ Tok →
    (p.kind ≡ codes "String") ⊎ ((p.kind ≡ codes "int") ⊎ (p.kind ≡ codes "boolean"))

-- the component's accessors take the name: its own, and where it is a list also those of its number and of all of it
pub data TakesName (p : Component) : List ℕ → Type 0 where
  own : TakesName p p.name
  number : (b : ℕ) → p.shape ≡ Many b → TakesName p (codes "Num" ++ p.name)
  all : (b : ℕ) → p.shape ≡ Many b → TakesName p (p.name ++ codes "List")

-- none of the components has a name that another one takes, or that every tree's accessors have already
pub record AreNamesFree (ps : List Component) : Type 0 where
  pub apart : (i j : ℕ) (p q : Component) → slice_get ps i ≡ Some p → slice_get ps j ≡ Some q → TakesName p q.name → i ≡ j
  pub free : (i : ℕ) (p : Component) → slice_get ps i ≡ Some p → IsNoneOf p.name (codes "Child") (codes "Parent") (codes "NumChild")

-- G5: so it is with the components of each class, those that it inherits among them
abbrev pub AreComponentsApart : Declarations → Type 0
AreComponentsApart ds = (c : ℕ) → AreNamesFree (parts (classes_of ds) c)

-- G8: there are at most 1,000 classes, and each has at most 32 components
pub record AreFew (ds : Declarations) : Type 0 where
  pub classes : length ds ≤ max_classes
  pub parts : (c : ℕ) → length (parts (classes_of ds) c) ≤ max_parts

-- the grammar keeps the rule of that code; G9 is that there is a class
abbrev pub Keeps : Declarations → Code → Type 0
Keeps ds NoClass = 0 < length ds
Keeps ds ClassTwice = AreClassesApart ds
Keeps ds UnknownClass = AreClassesKnown ds
Keeps ds SuperclassCircle = AreClassesBelowOthers ds
Keeps ds TokenKindCode = AreTokensOfKinds ds
Keeps ds ComponentTwice = AreComponentsApart ds
Keeps ds Limit = AreFew ds

-- which of the codes comes first
abbrev pub order : Code → ℕ
order NoClass = 0
order ClassTwice = 1
order UnknownClass = 2
order SuperclassCircle = 3
order TokenKindCode = 4
order ComponentTwice = 5
order Limit = 6

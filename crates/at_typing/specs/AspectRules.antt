-- What the rules of aspects say, in words of their own: what holds of declarations that aren't refused, rule by rule in the order in
-- which they are looked at. `Declaring`, `Meanings` and `Building` have the tests, and the places.
use Rattle.std.specs.Prelude.{◌≡◌, ℕ, ◌<◌, ◌≤◌, true, false, List, length, codes, Option, Some, IsSome}
use Rattle.std.specs.List.{slice_get}
use Rattle.at_model.specs.Classes.{Class, Classes, fits}
use Rattle.at_model.specs.Rules.{Rules, Attribute, Exposed, own_equation}
use Rattle.at_text.specs.declared.place.Place.{Place}
use Rattle.at_jrag.specs.Syntax.{Word, Params, Body, Equation, InheritedEquation}
use Rattle.at_jrag.specs.Syntax as written
use Rattle.at_kinds.specs.declared.arguments.Arguments.{Arguments}
use Rattle.at_kinds.specs.declared.arguments.Arguments.TheVariants.{Given}
use Rattle.at_kinds.specs.Accessors.{accessor_named}
use Rattle.at_kinds.specs.Judging.{Is}
use Rattle.at_kinds.specs.declared.accessors.Accessor.{Accessor}
use Rattle.at_kinds.specs.declared.code.RuleCode.{RuleCode}
use Rattle.at_kinds.specs.declared.code.RuleCode.TheVariants.{Limit, NameOfAccessor, AttributeTwice, EquationWithoutAttribute, EquationTwice, UnknownName, Argument, Kind, ClassWithoutEquation, InheritedWithoutEquation}
use Rattle.at_typing.specs.Building.{rules_of}
use Rattle.at_typing.specs.Declaring.{attributes, binds_twice, body_in, class_text, getter_in, has_same_signature, is_attribute, is_below, is_inherited, is_own_equation, max_attributes, max_text, name_text, start_in}
use Rattle.at_typing.specs.Located.{Located}
use Rattle.at_typing.specs.Meanings.{Meaning, meant}

-- J11 ------------------------------------------------------------------------------------------------------------------

mutual
  -- the text stands in the expression
  pub data HasText (text : List ℕ) : written.Expr → Type 0 where
    itself : {at : Place} → HasText text (written.TextLiteral at text)
    in_call : {at : Place} {name : List ℕ} {es : written.Exprs} → HaveText text es → HasText text (written.Call at name es)
    in_receiver : {at : Place} {e : written.Expr} {name : List ℕ} {es : written.Exprs} → HasText text e → HasText text (written.CallOf at e name es)
    in_arguments : {at : Place} {e : written.Expr} {name : List ℕ} {es : written.Exprs} → HaveText text es → HasText text (written.CallOf at e name es)
    in_paren : {at : Place} {e : written.Expr} → HasText text e → HasText text (written.Paren at e)
    in_negated : {at : Place} {e : written.Expr} → HasText text e → HasText text (written.Negate at e)
    in_opposite : {at : Place} {e : written.Expr} → HasText text e → HasText text (written.Not at e)
    in_cast : {at : Place} {class : Word} {e : written.Expr} → HasText text e → HasText text (written.Cast at class e)
    in_tested : {at behind : Place} {e : written.Expr} {class : Word} → HasText text e → HasText text (written.InstanceOf at e behind class)
    in_left : {at between : Place} {o : written.Operator} {a b : written.Expr} → HasText text a → HasText text (written.Binary at o between a b)
    in_right : {at between : Place} {o : written.Operator} {a b : written.Expr} → HasText text b → HasText text (written.Binary at o between a b)
    in_test : {at behind : Place} {c a b : written.Expr} → HasText text c → HasText text (written.Choose at c behind a b)
    in_first : {at behind : Place} {c a b : written.Expr} → HasText text a → HasText text (written.Choose at c behind a b)
    in_second : {at behind : Place} {c a b : written.Expr} → HasText text b → HasText text (written.Choose at c behind a b)
    in_list : {at : Place} {form : written.FoldForm} {name : Word} {list e : written.Expr} → HasText text list
        → HasText text (written.Fold at form name list e)
    in_braces : {at : Place} {form : written.FoldForm} {name : Word} {list e : written.Expr} → HasText text e
        → HasText text (written.Fold at form name list e)

  -- it stands in one of them
  pub data HaveText (text : List ℕ) : written.Exprs → Type 0 where
    here : {e : written.Expr} {es : written.Exprs} → HasText text e → HaveText text (written.expr e es)
    later : {e : written.Expr} {es : written.Exprs} → HaveText text es → HaveText text (written.expr e es)

-- there are at most 2,000 attributes, and no text has over 4,096 bytes
pub record AreFew (ds : List Located) : Type 0 where
  pub attributes : length (attributes ds) ≤ max_attributes
  pub texts : (i : ℕ) (d : Located) (b : Body) (text : List ℕ) → slice_get ds i ≡ Some d → body_in d.decl.form ≡ Some b → HasText text b.expr
      → length text ≤ max_text

-- J12 ------------------------------------------------------------------------------------------------------------------

-- every text or node has the name already, or an accessor of a class has it
pub data IsAccessorName (classes : Classes) (name : List ℕ) : Type 0 where
  of_texts : name ≡ codes "equals" → IsAccessorName classes name
  of_parents : name ≡ codes "getParent" → IsAccessorName classes name
  of_children : name ≡ codes "getChild" → IsAccessorName classes name
  of_numbers : name ≡ codes "getNumChild" → IsAccessorName classes name
  of_class : (c : ℕ) (k : Class) (a : Accessor) → slice_get classes c ≡ Some k → accessor_named classes c name ≡ Some a → IsAccessorName classes name

-- no attribute has the name of an accessor
abbrev pub AreNoAccessors : Classes → List Located → Type 0
AreNoAccessors classes ds =
    (i : ℕ) (d : Located) → slice_get ds i ≡ Some d → is_attribute d.decl.form ≡ true → IsAccessorName classes (name_text d) → ⊥

-- J2 -------------------------------------------------------------------------------------------------------------------

-- Two attributes of one name are both synthesized or both inherited, unless what is computed may be an argument. Inherited ones have the
-- same kinds and the same start, if any. And neither class is the other's or above it.
pub record AreApart (allowed : Arguments) (classes : Classes) (d e : Located) : Type 0 where
  pub alike : allowed ≡ Given → is_inherited d.decl.form ≡ is_inherited e.decl.form
  pub kinds : is_inherited d.decl.form ≡ true → is_inherited e.decl.form ≡ true → has_same_signature d.decl.form e.decl.form ≡ true
  pub starts : is_inherited d.decl.form ≡ true → is_inherited e.decl.form ≡ true → start_in d.decl.form ≡ start_in e.decl.form
  pub below : is_below classes (class_text d) (class_text e) ≡ false
  pub above : is_below classes (class_text e) (class_text d) ≡ false

-- so it is of each two attributes of one name; and no name is bound where it is bound already
pub record AreDeclaredOnce (allowed : Arguments) (classes : Classes) (ds : List Located) : Type 0 where
  pub attributes : (i j : ℕ) (d e : Located) → i < j → slice_get ds i ≡ Some d → slice_get ds j ≡ Some e → is_attribute d.decl.form ≡ true
      → is_attribute e.decl.form ≡ true → name_text e ≡ name_text d → AreApart allowed classes e d
  pub names : (i : ℕ) (d : Located) → slice_get ds i ≡ Some d → binds_twice d.decl.form ≡ false

-- J9 -------------------------------------------------------------------------------------------------------------------

-- a synthesized attribute of that name is declared for the class or one above it
pub record IsSynthesized (classes : Classes) (ds : List Located) (class name : List ℕ) : Type 0 where
  pub position : ℕ
  pub declaration : Located
  pub there : slice_get ds position ≡ Some declaration
  pub declares : is_attribute declaration.decl.form ≡ true
  pub synthesized : is_inherited declaration.decl.form ≡ false
  pub named : name ≡ name_text declaration
  pub below : is_below classes class (class_text declaration) ≡ true

-- an inherited attribute of that name is declared somewhere
pub record IsInheritedName (ds : List Located) (name : List ℕ) : Type 0 where
  pub position : ℕ
  pub declaration : Located
  pub there : slice_get ds position ≡ Some declaration
  pub inherited : is_inherited declaration.decl.form ≡ true
  pub named : name ≡ name_text declaration

-- each equation is of an attribute that is declared
pub record AreOfAttributes (classes : Classes) (ds : List Located) : Type 0 where
  pub own : (i : ℕ) (d : Located) (class name : Word) (params : Params) (body : Body) → slice_get ds i ≡ Some d
      → d.decl.form ≡ Equation class name params body → IsSynthesized classes ds class.text name.text
  pub inherited : (i : ℕ) (d : Located) (class getter name : Word) (index : Option Word) (params : Params) (body : Body) → slice_get ds i ≡ Some d
      → d.decl.form ≡ InheritedEquation class getter index name params body → IsInheritedName ds name.text

-- J6 -------------------------------------------------------------------------------------------------------------------

-- they are for the class's own nodes, or for those in one component
pub data AreForSame (d e : Located) : Type 0 where
  own : is_own_equation d.decl.form ≡ true → is_own_equation e.decl.form ≡ true → AreForSame d e
  below : (v w : Word) → getter_in d.decl.form ≡ Some v → getter_in e.decl.form ≡ Some w → v.text ≡ w.text → AreForSame d e

-- no two equations are of one class and one attribute, or of one class, one component and one attribute
abbrev pub AreEquationsOnce : List Located → Type 0
AreEquationsOnce ds = (i j : ℕ) (d e : Located) → i < j → slice_get ds i ≡ Some d → slice_get ds j ≡ Some e → class_text e ≡ class_text d
    → name_text e ≡ name_text d → AreForSame e d → ⊥

-- J3, J5 and J4 --------------------------------------------------------------------------------------------------------

-- each declaration means something: each name is there, and each parameter, argument and expression is as it has to be
abbrev pub HaveMeanings : Arguments → Classes → List Located → Type 0
HaveMeanings allowed classes ds = (i : ℕ) (d : Located) → slice_get ds i ≡ Some d → (m : Meaning) × (meant allowed classes ds d ≡ Is m)

-- J7 and J8 ------------------------------------------------------------------------------------------------------------

-- each class that isn't abstract comes, it or one above it, to an equation for each of its synthesized attributes
abbrev pub HaveOwnEquations : Rules → Type 0
HaveOwnEquations rules = (c attribute : ℕ) (a : Attribute) → slice_get rules.attributes attribute ≡ Some a → a.is_inherited ≡ false
    → fits rules.classes c a.class ≡ true → IsSome (own_equation rules c attribute)

-- no class that isn't abstract is exposed for one of its inherited attributes
abbrev pub AreCovered : Rules → Type 0
AreCovered rules = (c attribute : ℕ) (a : Attribute) → slice_get rules.attributes attribute ≡ Some a → a.is_inherited ≡ true
    → fits rules.classes c a.class ≡ true → Exposed rules a.name c → ⊥

-- ----------------------------------------------------------------------------------------------------------------------

-- the declarations keep the rule of that code
abbrev pub Keeps : Arguments → Classes → List Located → RuleCode → Type 0
Keeps allowed classes ds Limit = AreFew ds
Keeps allowed classes ds NameOfAccessor = AreNoAccessors classes ds
Keeps allowed classes ds AttributeTwice = AreDeclaredOnce allowed classes ds
Keeps allowed classes ds EquationWithoutAttribute = AreOfAttributes classes ds
Keeps allowed classes ds EquationTwice = AreEquationsOnce ds
Keeps allowed classes ds UnknownName = HaveMeanings allowed classes ds
Keeps allowed classes ds Argument = HaveMeanings allowed classes ds
Keeps allowed classes ds Kind = HaveMeanings allowed classes ds
Keeps allowed classes ds ClassWithoutEquation = HaveOwnEquations (rules_of allowed classes ds)
Keeps allowed classes ds InheritedWithoutEquation = AreCovered (rules_of allowed classes ds)

-- which of the codes comes first; three are looked at together
abbrev pub order : RuleCode → ℕ
order Limit = 0
order NameOfAccessor = 1
order AttributeTwice = 2
order EquationWithoutAttribute = 3
order EquationTwice = 4
order UnknownName = 5
order Argument = 5
order Kind = 5
order ClassWithoutEquation = 6
order InheritedWithoutEquation = 7

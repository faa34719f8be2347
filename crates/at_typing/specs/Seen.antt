-- What the values of meanings stand for.
use Rattle.std.specs.Prelude.{◌≡◌, ℕ, Bool, ◌&&◌, nat_eq, List, Option, Some, None, map, option_map, Result, Ok, Err, All, String}
use Rattle.std.specs.Global.{Global}
use Rattle.std.specs.List.{filter_map}
use Rattle.std.specs.Option.{option_eq}
use Rattle.indexmap.specs.IndexMap.{insert_entry}
use Rattle.at_model.specs.Bodies.{Expr}
use Rattle.at_model.specs.Classes.{Classes}
use Rattle.at_model.specs.Rules.{Attribute}
use Rattle.at_model.specs.Rules as model
use Rattle.at_rules.specs.Bodies.{kind_view, body_view}
use Rattle.at_rules.specs.RulesView.{attribute_view, own_view, inherited_view, named}
use Rattle.at_rules.specs.declared.body.Body.{Body as BodyValue}
use Rattle.at_rules.specs.declared.rules.Attribute.{Attribute as AttributeValue}
use Rattle.at_rules.specs.declared.rules.Equations.{Equations}
use Rattle.at_typing.specs.AttributeKeys.{AreAttributes, IsAmong}
use Rattle.at_typing.specs.Building.{meanings, refusal}
use Rattle.at_typing.specs.Declaring.{fault_at, name_text}
use Rattle.at_kinds.specs.declared.arguments.Arguments.{Arguments}
use Rattle.at_kinds.specs.Judging.{Judgement, Is, Wrong}
use Rattle.at_typing.specs.Located.{Located}
use Rattle.at_typing.specs.Meanings.{Meaning, signatures, inherited_equation}
use Rattle.at_typing.specs.Numbering.{numbered_view, IsNamed}
use Rattle.at_typing.specs.declared.fault.Breach.{Breach}
use Rattle.at_text.specs.declared.fault.Failure.{Failure}
use Rattle.at_text.specs.declared.fault.Failure.TheVariants as failure
use Rattle.at_typing.specs.declared.meaning.Among.{Among}
use Rattle.at_typing.specs.declared.numbered.Numbered.{Numbered as NumberedValue}
use Rattle.at_kinds.specs.declared.code.RuleCode.{RuleCode}
use Rattle.at_text.specs.declared.fault.Fault.{Fault}
use Rattle.at_text.specs.declared.fault.Fault.TheVariants.{Refused, Memory}

-- an attribute of a class, which the declaration declares
abbrev pub attribute_of : Located → ℕ × AttributeValue → Attribute
attribute_of d e = record {
  name = name_text d;
  class = e.0;
  parameters = map kind_view e.1.params.items;
  result = kind_view e.1.result;
  is_lazy = e.1.is_lazy;
  is_inherited = e.1.is_inherited;
  start = e.1.start;
}

-- an attribute's number, and the body of an equation for it
abbrev pub equation_view : ℕ × BodyValue → ℕ × Expr
equation_view e = (e.0, body_view e.1)

-- keys of the maps
abbrev pub same_key : ℕ × ℕ → ℕ × ℕ → Bool
same_key j k = nat_eq j.0 k.0 && nat_eq j.1 k.1

abbrev pub same_place : ℕ × Option ℕ × ℕ → ℕ × Option ℕ × ℕ → Bool
same_place j k = (nat_eq j.0 k.0 && option_eq nat_eq j.1 k.1) && nat_eq j.2 k.2

-- the attribute that is judged stands by its class and that name, or its first fault is told
abbrev pub Declares : Located → (name : ℕ) → Judgement Attribute → (old new : List ((ℕ × ℕ) × AttributeValue)) → Result ℕ (Fault RuleCode) → Type 0
Declares d n j old new (Ok c) = (a : AttributeValue) × (j ≡ Is (attribute_of d (c, a))) × (new ≡ insert_entry same_key old (c, n) a)
Declares d n j old new (Err (Refused code at)) = j ≡ Wrong code at
Declares d n j old new (Err Memory) = Unit {0}

-- the body that is judged stands by the class and its attribute, or its first fault is told
abbrev pub AddsOwn : (class : ℕ) → Judgement (ℕ × Expr) → (old new : List ((ℕ × ℕ) × BodyValue)) → Result (Unit {0}) (Fault RuleCode) → Type 0
AddsOwn c j old new (Ok u) = (e : ℕ × BodyValue) × (j ≡ Is (equation_view e)) × (new ≡ insert_entry same_key old (c, e.0) e.1)
AddsOwn c j old new (Err (Refused code at)) = j ≡ Wrong code at
AddsOwn c j old new (Err Memory) = Unit {0}

-- the body that is judged stands by the class, the component and that name, or its first fault is told
abbrev pub AddsInherited : (class : ℕ) → Option ℕ → (name : ℕ) → Judgement (ℕ × Expr) → (old new : List ((ℕ × Option ℕ × ℕ) × BodyValue))
    → Result (Unit {0}) (Fault RuleCode) → Type 0
AddsInherited c part n j old new (Ok u) = (e : ℕ × BodyValue) × (j ≡ Is (equation_view e)) × (new ≡ insert_entry same_place old (c, part, n) e.1)
AddsInherited c part n j old new (Err (Refused code at)) = j ≡ Wrong code at
AddsInherited c part n j old new (Err Memory) = Unit {0}

-- what a declaration adds to the maps, without the number of its name
pub record Added : Type 0 where
  pub attribute : Option (ℕ × AttributeValue)
  pub own : Option ((ℕ × ℕ) × BodyValue)
  pub inherited : Option ((ℕ × Option ℕ) × BodyValue)

-- an equation of a class for the nodes in a component, or in each one, of the attribute that the declaration names
abbrev pub inherited_of : Located → (ℕ × Option ℕ) × BodyValue → model.InheritedEquation
inherited_of d e = inherited_equation d e.0.0 e.0.1 (body_view e.1)

abbrev pub meaning_of : Located → Added → Meaning
meaning_of d m = record {
  attribute = option_map (attribute_of d) m.attribute;
  own = option_map own_view m.own;
  inherited = option_map (inherited_of d) m.inherited;
}

abbrev pub attribute_by : (name : ℕ) → ℕ × AttributeValue → (ℕ × ℕ) × AttributeValue
attribute_by n e = ((e.0, n), e.1)

abbrev pub inherited_by : (name : ℕ) → (ℕ × Option ℕ) × BodyValue → (ℕ × Option ℕ × ℕ) × BodyValue
inherited_by n e = ((e.0.0, e.0.1, n), e.1)

-- the entry is inserted, if there is one
abbrev pub with_entry : {K V : Type 0} → (K → K → Bool) → List (K × V) → Option (K × V) → List (K × V)
with_entry eq es None = es
with_entry eq es (Some e) = insert_entry eq es e.0 e.1

-- that is inserted into the maps, where the name has that number
pub record Inserts (n : ℕ) (m : Added) (old new : Equations) : Type 0 where
  pub attributes : new.attributes.entries ≡ with_entry same_key old.attributes.entries (option_map (attribute_by n) m.attribute)
  pub own : new.own.entries ≡ with_entry same_key old.own.entries m.own
  pub inherited : new.inherited.entries ≡ with_entry same_place old.inherited.entries (option_map (inherited_by n) m.inherited)

-- what the declaration means is inserted, where its name has that number, or its first fault is told
abbrev pub Adds : Located → (name : ℕ) → Judgement Meaning → (old new : Equations) → Result (Unit {0}) (Fault RuleCode) → Type 0
Adds d n j old new (Ok u) = (m : Added) × (j ≡ Is (meaning_of d m)) × Inserts n m old new
Adds d n j old new (Err (Refused code at)) = j ≡ Wrong code at
Adds d n j old new (Err Memory) = Unit {0}

-- what is known of attributes is what these declarations declare, and the numbers of this one are right among theirs
pub record IsAbout (ds : List NumberedValue) (a : Among) (d : NumberedValue) : Type 0 where
  pub signatures : a.signatures.now ≡ signatures a.classes.now (map numbered_view ds)
  pub attributes : AreAttributes ds a.attributes.now
  pub numbers : IsAmong a.classes.now ds d

-- the equations are what is meant, where their names have these numbers
pub record Stands {Z : Type 0} (names : List (String Z)) (ms : List Meaning) (e : Equations) : Type 0 where
  pub attributes : map (attribute_view names) e.attributes.entries ≡ filter_map (λ (m : Meaning). m.attribute) ms
  pub own : map own_view e.own.entries ≡ filter_map (λ (m : Meaning). m.own) ms
  pub inherited : map (inherited_view names) (named names e.inherited.entries) ≡ filter_map (λ (m : Meaning). m.inherited) ms

-- what the declarations mean, where there is no fault; else the fault is told; of want of memory nothing is said
abbrev pub Means : Arguments → Classes → List NumberedValue → Option Breach → Result Equations (Failure Breach) → Type 0
Means allowed classes ds first (Ok e) = (first ≡ None)
    × ((names : List (String Global)) → All (IsNamed names) ds → Stands names (meanings allowed classes (map numbered_view ds) (map numbered_view ds)) e)
Means allowed classes ds first (Err (failure.For f)) = first ≡ Some f
Means allowed classes ds first (Err failure.Memory) = Unit {0}

-- it is the fault that is told, or there is none; of want of memory nothing is said
abbrev pub Tells : (Option Breach → Type 0) → Result (Unit {0}) (Failure Breach) → Type 0
Tells IsFault (Ok u) = IsFault None
Tells IsFault (Err (failure.For f)) = IsFault (Some f)
Tells IsFault (Err failure.Memory) = Unit {0}

-- the declaration's fault, with its file
abbrev pub refusal_of : Located → Fault RuleCode → Failure Breach
refusal_of d (Refused c at) = failure.For (fault_at c d at)
refusal_of d Memory = failure.Memory

-- what the declaration means is inserted, or its first fault is told
abbrev pub AddsOrTells : Located → (name : ℕ) → Judgement Meaning → (old new : Equations) → Result (Unit {0}) (Failure Breach) → Type 0
AddsOrTells d n j old new (Ok u) = (m : Added) × (j ≡ Is (meaning_of d m)) × Inserts n m old new
AddsOrTells d n j old new (Err (failure.For f)) = refusal d j ≡ Some f
AddsOrTells d n j old new (Err failure.Memory) = Unit {0}

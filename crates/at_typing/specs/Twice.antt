-- The attributes that are declared before a declaration, by the numbers of their classes and names.
use Rattle.std.specs.Prelude.{◌≡◌, ℕ, Bool, false, ◌||◌, ◌&&◌, nat_eq, List, map, Option, Some, None, option_map, if◌then◌else◌}
use Rattle.std.specs.List.{list_any}
use Rattle.std.specs.Option.{option_or}
use Rattle.std.specs.Borrow.{Bor}
use Rattle.indexmap.specs.IndexMap.{IndexMap, get}
use Rattle.at_model.specs.Classes.{Classes}
use Rattle.at_jrag.specs.Syntax.{DeclForm}
use Rattle.at_jrag.specs.View.{decl_form_view}
use Rattle.at_jrag.specs.declared.syntax.DeclForm.{DeclForm as FormValue}
use Rattle.at_typing.specs.AttributeKeys.{is_key, IsAmong}
use Rattle.at_kinds.specs.declared.arguments.Arguments.{Arguments}
use Rattle.at_typing.specs.Declaring.{differs, is_attribute, is_compared, clashes, binds_twice}
use Rattle.at_typing.specs.Numbering.{numbered_view, same_class, is_class_below}
use Rattle.at_typing.specs.declared.checks.twice.Before.{Before}
use Rattle.at_typing.specs.declared.numbered.NamedClass.{NamedClass}
use Rattle.at_typing.specs.declared.numbered.Numbered.{Numbered as NumberedValue}

-- the declaration differs from that one, where there is one
abbrev pub differs_from : DeclForm → Option DeclForm → Bool
differs_from form None = false
differs_from form (Some first) = differs form first

-- it is compared with others, and differs from that one
abbrev pub disagrees_from : Arguments → DeclForm → Option DeclForm → Bool
disagrees_from allowed form first = is_compared allowed form && differs_from form first

-- the declaration that stands by the name
abbrev pub form_of : {S : Type 0} → IndexMap ℕ (Bor FormValue) S → ℕ → Option DeclForm
form_of firsts name = option_map (λ f. decl_form_view f.now) (get nat_eq firsts name)

-- the first declaration of the name that is compared with others
abbrev pub first_form : Before → ℕ → Option DeclForm
first_form b name = form_of b.first name

-- the form stands by its name, if it is compared with others and none stood there
abbrev pub NotesCompared : {S : Type 0} → Arguments → (name : ℕ) → DeclForm → (old new : IndexMap ℕ (Bor FormValue) S) → Type 0
NotesCompared allowed name form old new =
    (n : ℕ) → form_of new n ≡ option_or (form_of old n) (if nat_eq n name && is_compared allowed form then Some form else None)

-- the class with the name is among these
abbrev pub has_key : List (NamedClass × ℕ) → ℕ → NamedClass → Bool
has_key keys name class = list_any (is_key class name) keys

-- those of these classes with the name are more
abbrev pub InsertsKeys : (old new : List (NamedClass × ℕ)) → ℕ → List NamedClass → Type 0
InsertsKeys old new name cs = (class : NamedClass) (n : ℕ) → has_key new n class ≡ (has_key old n class || list_any (λ c. is_key class n (c, name)) cs)

-- it declares an attribute of that name
abbrev pub declares : ℕ → NumberedValue → Bool
declares name d = is_attribute (numbered_view d).decl.form && nat_eq name d.name

-- it does, and is compared with others
abbrev pub compares : Arguments → ℕ → NumberedValue → Bool
compares allowed name d = declares name d && is_compared allowed (numbered_view d).decl.form

-- What differs from the first declaration of a name that is compared is what differs from one of these that is compared. Each class has
-- the names that it declares, and those that it or a class below it declares.
pub record AreBefore (allowed : Arguments) (classes : Classes) (ds : List NumberedValue) (b : Before) : Type 0 where
  pub first : (form : DeclForm) (name : ℕ)
      → differs_from form (first_form b name) ≡ list_any (λ d. compares allowed name d && differs form (numbered_view d).decl.form) ds
  pub declared : (class : NamedClass) (name : ℕ) → has_key b.declared.keys name class ≡ list_any (λ d. declares name d && same_class class d.class) ds
  pub above : (class : NamedClass) (name : ℕ) → has_key b.above.keys name class ≡ list_any (λ d. declares name d && is_class_below classes d.class class) ds

-- the declaration is one more
pub record Adds (allowed : Arguments) (classes : Classes) (d : NumberedValue) (old new : Before) : Type 0 where
  pub first : (name : ℕ) → first_form new name ≡ option_or (first_form old name) (if compares allowed name d then Some (numbered_view d).decl.form else None)
  pub declared : (class : NamedClass) (name : ℕ)
      → has_key new.declared.keys name class ≡ (has_key old.declared.keys name class || (declares name d && same_class class d.class))
  pub above : (class : NamedClass) (name : ℕ)
      → has_key new.above.keys name class ≡ (has_key old.above.keys name class || (declares name d && is_class_below classes d.class class))

-- the answer says whether the declaration's attribute clashes with one of these
abbrev pub TellsClash : Arguments → Classes → Before → NumberedValue → Bool → Type 0
TellsClash allowed classes b d answer = (ds : List NumberedValue) → AreBefore allowed classes ds b → IsAmong classes ds d
    → answer ≡ (is_attribute (numbered_view d).decl.form && list_any (clashes allowed classes (numbered_view d)) (map numbered_view ds))

-- or whether it binds a name twice
abbrev pub TellsTwice : Arguments → Classes → Before → NumberedValue → Bool → Type 0
TellsTwice allowed classes b d answer = (ds : List NumberedValue) → AreBefore allowed classes ds b → IsAmong classes ds d
    → answer
    ≡ ((is_attribute (numbered_view d).decl.form && list_any (clashes allowed classes (numbered_view d)) (map numbered_view ds))
    || binds_twice (numbered_view d).decl.form)

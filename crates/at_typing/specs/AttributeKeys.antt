-- The attributes among declarations, by the numbers of their classes and names.
use Rattle.std.specs.Prelude.{◌≡◌, ℕ, Bool, true, false, ◌&&◌, nat_eq, List, [], ◌∷◌, ◌++◌, length, All, filter, map, Option, Some, None}
use Rattle.at_model.specs.Classes.{Classes}
use Rattle.at_rules.specs.FirstNamed.{AreNoted}
use Rattle.at_typing.specs.Declaring.{is_attribute, is_inherited, is_of_attribute, class_text, name_text, synthesized_named, inherited_named}
use Rattle.at_typing.specs.Numbering.{numbered_view, same_class, IsOfItsClass, AreAlike}
use Rattle.at_typing.specs.declared.attributes.Attributes.{Attributes}
use Rattle.at_typing.specs.declared.numbered.NamedClass.{NamedClass}
use Rattle.at_typing.specs.declared.numbered.NamedClass.TheVariants as named
use Rattle.at_typing.specs.declared.numbered.Numbered.{Numbered as NumberedValue}

abbrev pub is_key : NamedClass → ℕ → NamedClass × ℕ → Bool
is_key class name k = same_class class k.0 && nat_eq name k.1

-- those that declare attributes
abbrev pub attributes_in : List NumberedValue → List NumberedValue
attributes_in ds = filter (λ d. is_attribute (numbered_view d).decl.form) ds

-- a synthesized attribute stands by its class, where that is there
abbrev pub class_key : (inherits : Bool) → NamedClass → ℕ → Option (ℕ × ℕ)
class_key true class name = None
class_key false (named.Known c) name = Some (c, name)
class_key false (named.Unknown u) name = None

-- else by the word that names none
abbrev pub word_key : (inherits : Bool) → NamedClass → ℕ → Option (ℕ × ℕ)
word_key true class name = None
word_key false (named.Known c) name = None
word_key false (named.Unknown u) name = Some (u, name)

-- an inherited one stands by its name alone, as if of one class
abbrev pub name_key : (inherits : Bool) → ℕ → Option (ℕ × ℕ)
name_key true name = Some (0, name)
name_key false name = None

abbrev pub by_class : NumberedValue → Option (ℕ × ℕ)
by_class d = class_key (is_inherited (numbered_view d).decl.form) d.class d.name

abbrev pub by_word : NumberedValue → Option (ℕ × ℕ)
by_word d = word_key (is_inherited (numbered_view d).decl.form) d.class d.name

abbrev pub by_name : NumberedValue → Option (ℕ × ℕ)
by_name d = name_key (is_inherited (numbered_view d).decl.form) d.name

-- the attributes that these declare are noted, each by one of the three
pub record AreNotedAll (ds : List NumberedValue) (a : Attributes) : Type 0 where
  pub classes : AreNoted (map by_class ds) a.of_classes
  pub words : AreNoted (map by_word ds) a.of_words
  pub names : AreNoted (map by_name ds) a.inherited

-- the attributes among the declarations are noted
abbrev pub AreAttributes : List NumberedValue → Attributes → Type 0
AreAttributes ds a = AreNotedAll (attributes_in ds) a

-- the attribute of that number, which the declaration declares, is noted behind those before it
abbrev pub Notes : NumberedValue → ℕ → Attributes → Attributes → Type 0
Notes d attribute old new = (ds : List NumberedValue) → attribute ≡ length ds → AreNotedAll ds old → AreNotedAll (ds ++ d ∷ []) new

-- the declaration's numbers stand for its words, and are the same as those of these where the words are
pub record IsAmong (classes : Classes) (ds : List NumberedValue) (d : NumberedValue) : Type 0 where
  pub class : IsOfItsClass classes d
  pub others : All (IsOfItsClass classes) ds
  pub alike : All (AreAlike d) ds

-- the attribute that was found by a declaration's numbers is the one that its words name
abbrev pub FindsSynthesized : Attributes → Classes → NamedClass → ℕ → Option ℕ → Type 0
FindsSynthesized a classes class name found = (ds : List NumberedValue) (d : NumberedValue) → AreAttributes ds a → IsAmong classes ds d → class ≡ d.class
    → name ≡ d.name
    → found ≡ synthesized_named classes (map numbered_view ds) (class_text (numbered_view d)) (name_text (numbered_view d))

abbrev pub FindsInherited : Attributes → ℕ → Option ℕ → Type 0
FindsInherited a name found = (ds : List NumberedValue) (d : NumberedValue) → AreAttributes ds a → All (AreAlike d) ds → name ≡ d.name
    → found ≡ inherited_named (map numbered_view ds) (name_text (numbered_view d))

-- the answer says whether the declaration is no equation, or that of an attribute
abbrev pub TellsAttribute : Attributes → Classes → NumberedValue → Bool → Type 0
TellsAttribute a classes d found = (ds : List NumberedValue) → AreAttributes ds a → IsAmong classes ds d
    → found ≡ is_of_attribute classes (map numbered_view ds) (numbered_view d).decl.form

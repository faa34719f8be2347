-- The declarations with numbers for their classes and their attributes' names: what the numbers say of the words.
use Rattle.std.specs.Prelude.{◌≡◌, ℕ, zero, suc, Bool, false, ◌||◌, ◌&&◌, nat_eq, List, [], ◌∷◌, length, All, Option, Some, None, option_map, option_and_then, String}
use Rattle.std.specs.Option.{option_or}
use Rattle.std.specs.Str.{bytes_eq}
use Rattle.at_model.specs.Classes.{Classes, class_of_name, parent_of}
use Rattle.at_jrag.specs.View.{decl_view}
use Rattle.at_rules.specs.Names.{number_in}
use Rattle.at_typing.specs.Declaring.{class_text, name_text, is_sub_or_none, fault_if, fault_at, is_attribute, long_text, body_in}
use Rattle.at_typing.specs.Located.{Located}
use Rattle.at_typing.specs.declared.fault.Breach.{Breach}
use Rattle.at_kinds.specs.declared.code.RuleCode.TheVariants as code
use Rattle.at_typing.specs.declared.numbered.NamedClass.{NamedClass}
use Rattle.at_typing.specs.declared.numbered.NamedClass.TheVariants as named
use Rattle.at_typing.specs.declared.numbered.Numbered.{Numbered as NumberedValue}

abbrev pub numbered_view : NumberedValue → Located
numbered_view d = record { file = d.file; decl = decl_view d.decl.now }

-- classes by their numbers -------------------------------------------------------------------------------------------

abbrev pub same_class : NamedClass → NamedClass → Bool
same_class (named.Known c) (named.Known b) = nat_eq c b
same_class (named.Known c) (named.Unknown v) = false
same_class (named.Unknown u) (named.Known b) = false
same_class (named.Unknown u) (named.Unknown v) = nat_eq u v

-- the class, where it is there
abbrev pub known_class : NamedClass → Option ℕ
known_class (named.Known c) = Some c
known_class (named.Unknown u) = None

-- the superclass
abbrev pub parent_class : Classes → NamedClass → Option NamedClass
parent_class classes (named.Known c) = option_map named.Known (parent_of classes c)
parent_class classes (named.Unknown u) = None

-- the class, its superclass and so on, at most this many
abbrev pub line_within : ℕ → Classes → Option NamedClass → List NamedClass
line_within zero classes c = []
line_within (suc n) classes None = []
line_within (suc n) classes (Some c) = c ∷ line_within n classes (parent_class classes c)

-- the class and all those above it
abbrev pub line : Classes → NamedClass → List NamedClass
line classes c = line_within (length classes) classes (Some c)

-- the first class is the second one, or below it
abbrev pub is_class_below : Classes → NamedClass → NamedClass → Bool
is_class_below classes c b = same_class c b || is_sub_or_none classes (known_class c) (known_class b)

-- numbers for words --------------------------------------------------------------------------------------------------

-- the class is the one that its word names, if any
abbrev pub IsOfItsClass : Classes → NumberedValue → Type 0
IsOfItsClass classes d = known_class d.class ≡ class_of_name classes (class_text (numbered_view d))

-- the name's number is its position among the names
abbrev pub IsNamed : {Z : Type 0} → List (String Z) → NumberedValue → Type 0
IsNamed names d = number_in names (name_text (numbered_view d)) ≡ Some d.name

-- the numbers of the two are the same exactly where the words are
pub record AreAlike (d e : NumberedValue) : Type 0 where
  pub class : same_class d.class e.class ≡ bytes_eq (class_text (numbered_view d)) (class_text (numbered_view e))
  pub name : nat_eq d.name e.name ≡ bytes_eq (name_text (numbered_view d)) (name_text (numbered_view e))

-- the numbers of all are right
pub record AreNumbered (classes : Classes) (ds : List NumberedValue) : Type 0 where
  pub class : All (IsOfItsClass classes) ds
  pub alike : All (λ d. All (AreAlike d) ds) ds

abbrev pub class_or_unknown : Option ℕ → Option ℕ → Option NamedClass
class_or_unknown (Some c) n = Some (named.Known c)
class_or_unknown None n = option_map named.Unknown n

-- the class that a word names, where these are the words that name none
abbrev pub class_number : {Z : Type 0} → Classes → List (String Z) → List ℕ → Option NamedClass
class_number classes unknown word = class_or_unknown (class_of_name classes word) (number_in unknown word)

-- the numbers are the positions among these
pub record HasNumbers {Y Z : Type 0} (classes : Classes) (unknown : List (String Y)) (names : List (String Z)) (d : NumberedValue) : Type 0 where
  pub class : class_number classes unknown (class_text (numbered_view d)) ≡ Some d.class
  pub name : number_in names (name_text (numbered_view d)) ≡ Some d.name

-- limits -------------------------------------------------------------------------------------------------------------

-- the fault of a declaration before which there are as many attributes as there may be, or not
abbrev pub limit_of : Bool → Located → Option Breach
limit_of is_full d =
    option_or (fault_if (is_attribute d.decl.form && is_full) code.Limit d)
    (option_map (fault_at code.Limit d) (option_and_then (λ b. long_text b.expr) (body_in d.decl.form)))

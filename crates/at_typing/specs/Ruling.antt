-- The parts of a declaration: its kinds, its class, its component and index name, its parameters; or their first fault.
use Rattle.std.specs.Prelude.{ℕ, ◌+◌, Bool, true, false, ◌&&◌, not, nat_eq, nat_lt, List, [], ◌∷◌, length, map, codes, position, Option, Some, None, is_some, option_map, option_and_then, slice_get, if◌then◌else◌}
use Rattle.std.specs.Borrow.{Bor}
use Rattle.std.specs.Str.{bytes_eq}
use Rattle.at_model.specs.Classes.{Classes, class_of_name, parts}
use Rattle.at_model.specs.Classes as class
use Rattle.at_text.specs.declared.place.Place.{Place}
use Rattle.at_jrag.specs.Syntax.{Word, KindWord, Param}
use Rattle.at_jrag.specs.Syntax as written
use Rattle.at_jrag.specs.View.{kind_word_view}
use Rattle.at_jrag.specs.declared.syntax.KindWord.{KindWord as KindWordValue}
use Rattle.at_rules.specs.Bodies.{is_numeric}
use Rattle.at_rules.specs.declared.body.Kind.{Kind}
use Rattle.at_rules.specs.declared.body.Kind.TheVariants as kind
use Rattle.at_kinds.specs.declared.arguments.Arguments.{Arguments}
use Rattle.at_kinds.specs.declared.arguments.Arguments.TheVariants.{Given, Computed}
use Rattle.at_kinds.specs.Accessors.{accessed, shape_of, is_list}
use Rattle.at_kinds.specs.Judging.{Judgement, Is, Wrong, and_then, Bound}
use Rattle.at_kinds.specs.declared.code.RuleCode.TheVariants as code
use Rattle.at_kinds.specs.declared.signatures.WrittenKind.{WrittenKind}
use Rattle.at_kinds.specs.declared.signatures.WrittenKind.TheVariants.{Known, Strange}

-- kinds as they are written -------------------------------------------------------------------------------------------

-- the kind that is written, unless it is a class that isn't there
abbrev pub known_kind : Classes → written.Kind → Option Kind
known_kind classes written.Int = Some kind.Int
known_kind classes written.Bool' = Some kind.Bool
known_kind classes written.Text = Some kind.Text
known_kind classes (written.Class name) = option_map kind.Class (class_of_name classes name)

abbrev pub names_class : List ℕ → written.Kind → Bool
names_class name (written.Class word) = bytes_eq word name
names_class name k = false

abbrev pub words_view : List (Bor KindWordValue) → List KindWord
words_view words = map (λ (w : Bor KindWordValue). kind_word_view w.now) words

-- the first of the words that is of the same class
abbrev pub first_named : List KindWord → written.Kind → Option ℕ
first_named words (written.Class name) = position (λ w. names_class name w.kind) words
first_named words k = None

abbrev pub first_unless : (is_known : Bool) → List KindWord → written.Kind → Option ℕ
first_unless true words k = None
first_unless false words k = first_named words k

abbrev pub as_written : (first : Option ℕ) → Option Kind → WrittenKind
as_written first None = Strange first
as_written first (Some k) = Known k

-- the kind that is written, where these are the words with which the values of attributes are declared: a class that isn't there
-- is told by the first of them that is of it
abbrev pub written_kind : Classes → (words : List KindWord) → written.Kind → WrittenKind
written_kind classes words k = as_written (first_unless (is_some (known_kind classes k)) words k) (known_kind classes k)

-- the parts of a declaration ------------------------------------------------------------------------------------------

abbrev pub or_unknown : {A : Type 0} → Place → Option A → Judgement A
or_unknown at None = Wrong code.UnknownName at
or_unknown at (Some a) = Is a

abbrev pub class_named : Classes → Word → Judgement ℕ
class_named classes word = or_unknown word.at (class_of_name classes word.text)

abbrev pub kind_named : Classes → KindWord → Judgement Kind
kind_named classes word = or_unknown word.at (known_kind classes word.kind)

-- how many parameters an attribute may have
unfoldable pub max_parameters : Arguments → ℕ
max_parameters Given = 2
max_parameters Computed = 4

-- texts and nodes can be passed; where what is computed may be an argument, so can ints and booleans
abbrev pub can_be_passed : Arguments → Kind → Bool
can_be_passed Given k = not (is_numeric k)
can_be_passed Computed k = true

abbrev pub passed_if : Bool → Place → Kind → Judgement Kind
passed_if b at k = if b then Is k else Wrong code.Argument at

-- the kind of the parameter at that position
abbrev pub param_named : Arguments → Classes → ℕ → Param → Judgement Kind
param_named allowed classes i p =
    and_then (λ k. passed_if (can_be_passed allowed k && nat_lt i (max_parameters allowed)) p.kind.at k) (kind_named classes p.kind)

-- the kinds of the parameters, the first of which stands at that position
abbrev pub params_named : Arguments → Classes → ℕ → List Param → Judgement (List Kind)
params_named allowed classes i [] = Is []
params_named allowed classes i (p ∷ ps) =
    and_then (λ k. and_then (λ ks. Is (k ∷ ks)) (params_named allowed classes (i + 1) ps)) (param_named allowed classes i p)

abbrev pub is_same : Kind → Kind → Bool
is_same kind.Int kind.Int = true
is_same kind.Bool kind.Bool = true
is_same kind.Text kind.Text = true
is_same (kind.Class b) (kind.Class c) = nat_eq b c
is_same j k = false

-- that is the kind which is declared
abbrev pub is_kind : Option WrittenKind → Kind → Bool
is_kind (Some (Known j)) k = is_same j k
is_kind (Some (Strange first)) k = false
is_kind None k = false

-- the parameter at that position is the one that is declared
abbrev pub param_as_declared : Arguments → Classes → List WrittenKind → ℕ → Param → Judgement Kind
param_as_declared allowed classes declared i p = and_then (λ k. passed_if (is_kind (slice_get declared i) k) p.kind.at k) (param_named allowed classes i p)

-- the parameters of an equation are those of its attribute: at the first one that is wrong or too many, or at the end where one is
-- missing
abbrev pub as_declared : Arguments → Classes → List WrittenKind → (end : Place) → ℕ → List Param → Judgement (Unit {0})
as_declared allowed classes declared end i [] = if nat_lt i (length declared) then Wrong code.Argument end else Is tt
as_declared allowed classes declared end i (p ∷ ps) =
    and_then (λ k. as_declared allowed classes declared end (i + 1) ps) (param_as_declared allowed classes declared i p)

abbrev pub is_component : Option class.Shape → Bool
is_component None = false
is_component (Some (class.Token k)) = false
is_component (Some shape) = true

abbrev pub component_at : Classes → ℕ → Place → Option ℕ → Judgement (Option ℕ)
component_at classes c at None = Wrong code.UnknownName at
component_at classes c at (Some part) = if is_component (shape_of (parts classes c) part) then Is (Some part) else Wrong code.UnknownName at

-- the component that the getter gets, or none for the one that gets each
abbrev pub component_got : Classes → ℕ → Word → Judgement (Option ℕ)
component_got classes c getter = if bytes_eq getter.text (codes "getChild") then Is None else component_at classes c getter.at (accessed classes c getter.text)

abbrev pub is_many : Option class.Shape → Bool
is_many None = false
is_many (Some shape) = is_list shape

abbrev pub index_of_list : Classes → ℕ → Option ℕ → Option Word → Judgement (Unit {0})
index_of_list classes c part None = Is tt
index_of_list classes c part (Some index) = if is_many (option_and_then (shape_of (parts classes c)) part) then Is tt else Wrong code.UnknownName index.at

-- a parameter's name, with the kind of what it stands for
abbrev pub bound : Classes → Param → Bound
bound classes p = record { name = p.name.text; kind = as_written None (known_kind classes p.kind.kind) }

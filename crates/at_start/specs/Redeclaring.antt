-- Attributes that are declared again below: what declares a synthesized attribute that a class above declares, too, is read as its
-- equation, if it has one. Its kind is the one that is declared above, or one below it.
use Rattle.std.specs.Prelude.{◌≡◌, ℕ, ◌+◌, nat_eq, nat_le, Bool, true, false, ◌&&◌, not, List, [], ◌∷◌, ◌++◌, length, map, filter_map, codes, Option, Some, None, option_map, Result, Ok, Err, if◌then◌else◌}
use Rattle.std.specs.List.{find, flat_map, list_any}
use Rattle.std.specs.Bool.{beq}
use Rattle.std.specs.Option.{option_eq}
use Rattle.std.specs.Str.{bytes_eq}
use Rattle.at_model.specs.Classes.{Classes, is_sub, class_of_name, parent_of}
use Rattle.at_text.specs.declared.place.Place.{Place}
use Rattle.at_jrag.specs.Syntax.{Word, Kind, Int, Bool', Text, Class, Param, Params, Ending, With, Semicolon, DeclForm, Synthesized, Inherited, Equation, InheritedEquation, Decl, Aspect}
use Rattle.at_kinds.specs.declared.code.RuleCode.TheVariants as code
use Rattle.at_typing.specs.Declaring.{is_below}
use Rattle.at_typing.specs.declared.fault.Breach.{Breach}
use Rattle.at_text.specs.declared.fault.Failure.{Failure}
use Rattle.at_text.specs.declared.fault.Failure.TheVariants.{For, Memory}
use Rattle.at_start.specs.Overloading.{told_apart}
use Rattle.at_start.specs.Spreading.{spread}
use Rattle.at_start.specs.declared.language.Language.{Language}
use Rattle.at_start.specs.declared.language.Language.TheVariants.{Profile, JastAdd}

-- what is declared ----------------------------------------------------------------------------------------------------

-- a synthesized attribute as it is declared: where its kind stands and in which file, its kind, its class, its name with the kinds of
-- its parameters, and the value that it starts from, where it is circular
pub record Signature : Type 0 where
  pub file : ℕ
  pub at : Place
  pub kind : List ℕ
  pub class : Option ℕ
  pub text : List ℕ
  pub start : Option Bool

-- how a kind is written
abbrev pub kind_text : Kind → List ℕ
kind_text Int = codes "int"
kind_text Bool' = codes "boolean"
kind_text Text = codes "String"
kind_text (Class name) = name

-- a name, and behind it the kinds of parameters, each behind a comma
abbrev pub with_kinds : List ℕ → List Param → List ℕ
with_kinds name [] = name
with_kinds name (p ∷ ps) = with_kinds (name ++ codes "," ++ kind_text p.kind.kind) ps

-- what is declared in that file, if that is a synthesized attribute
abbrev pub signature_in : Classes → (file : ℕ) → DeclForm → Option Signature
signature_in classes file (Synthesized lazy kind class name params start ending) = Some (record {
  file = file;
  at = kind.at;
  kind = kind_text kind.kind;
  class = class_of_name classes class.text;
  text = with_kinds name.text params.items;
  start = start;
})
signature_in classes file (Inherited lazy kind class name params start) = None
signature_in classes file (Equation class name params body) = None
signature_in classes file (InheritedEquation class getter index name params body) = None

abbrev pub signature_of : Classes → (file : ℕ) → Decl → Option Signature
signature_of classes file d = signature_in classes file d.form

abbrev pub in_aspect : Classes → (file : ℕ) → Aspect → List Signature
in_aspect classes file a = filter_map (signature_of classes file) a.decls

-- those of the files, the first of which has this number
abbrev pub in_files : Classes → (file : ℕ) → List (List Aspect) → List Signature
in_files classes file [] = []
in_files classes file (f ∷ fs) = flat_map (in_aspect classes file) f ++ in_files classes (file + 1) fs

-- none, where they are more than may be declared: then the files are refused for that
abbrev pub few : List Signature → List Signature
few all = if nat_le (length all) 2000 then all else []

abbrev pub signatures : Classes → List (List Aspect) → List Signature
signatures classes files = few (in_files classes 1 files)

-- what is declared again ----------------------------------------------------------------------------------------------

abbrev pub superclass : Classes → Option ℕ → Option ℕ
superclass classes None = None
superclass classes (Some c) = parent_of classes c

-- that of the class for which a synthesized attribute is declared
abbrev pub superclass_in : Classes → DeclForm → Option ℕ
superclass_in classes (Synthesized lazy kind class name params start ending) = superclass classes (class_of_name classes class.text)
superclass_in classes (Inherited lazy kind class name params start) = None
superclass_in classes (Equation class name params body) = None
superclass_in classes (InheritedEquation class getter index name params body) = None

-- the second class is above the first one
abbrev pub is_above : Classes → Option ℕ → Option ℕ → Bool
is_above classes (Some c) (Some b) = if nat_eq b c then false else is_sub classes c b
is_above classes (Some c) None = false
is_above classes None b = false

-- no start is written, or the one that is written above
abbrev pub may_start : Option Bool → Option Bool → Bool
may_start None above = true
may_start (Some b) above = option_eq beq (Some b) above

-- the first one declares again what the second one declares
abbrev pub is_again : Classes → Signature → Signature → Bool
is_again classes s t = bytes_eq s.text t.text && (is_above classes s.class t.class && may_start s.start t.start)

-- it does, and its kind isn't that of the second one, nor below it
abbrev pub strays_from : Classes → Signature → Signature → Bool
strays_from classes s t = is_again classes s t && not (is_below classes s.kind t.kind)

-- it strays from one of these
abbrev pub strays : Classes → List Signature → Signature → Bool
strays classes among s = list_any (strays_from classes s) among

abbrev pub stray : Signature → Breach
stray s = record { code = code.Kind; file = s.file; at = s.at }

-- J4 at the kind of the first of them that strays
abbrev pub first_stray : Classes → List Signature → Option Breach
first_stray classes among = option_map stray (find (strays classes among) among)

-- how declarations are read among those -------------------------------------------------------------------------------

abbrev pub equation_of : Place → Word → Word → Params → Ending → List Decl
equation_of at class name params (With body) = record { at = at; form = Equation class name params body } ∷ []
equation_of at class name params (Semicolon end) = []

-- the equation of a synthesized attribute that is declared with one; else none
abbrev pub as_equation : Place → DeclForm → List Decl
as_equation at (Synthesized lazy kind class name params start ending) = equation_of at class name params ending
as_equation at (Inherited lazy kind class name params start) = []
as_equation at (Equation class name params body) = []
as_equation at (InheritedEquation class getter index name params body) = []

abbrev pub is_declared_above : Classes → List Signature → Option Signature → Bool
is_declared_above classes among None = false
is_declared_above classes among (Some s) = list_any (is_again classes s) among

-- what a declaration is read as
abbrev pub read_as : Classes → List Signature → Decl → List Decl
read_as classes among d = if is_declared_above classes among (signature_in classes 0 d.form) then as_equation d.at d.form else d ∷ []

abbrev pub aspect_read : Classes → List Signature → Aspect → Aspect
aspect_read classes among a = record { name = a.name; decls = flat_map (read_as classes among) a.decls }

abbrev pub files_read : Classes → List Signature → List (List Aspect) → List (List Aspect)
files_read classes among files = map (map (aspect_read classes among)) files

-- how aspects are read in the language --------------------------------------------------------------------------------

-- where nothing is declared for ASTNode
abbrev pub read_below : Classes → List (List Aspect) → List (List Aspect)
read_below classes files = files_read classes (signatures classes files) files

abbrev pub fault_below : Classes → List (List Aspect) → Option Breach
fault_below classes files = first_stray classes (signatures classes files)

abbrev pub read_in : Language → Classes → List (List Aspect) → List (List Aspect)
read_in (Profile forms) classes files = files
read_in JastAdd classes files = read_below classes (spread classes (told_apart classes files))

-- the fault that is met there, if there is one
abbrev pub fault_in : Language → Classes → List (List Aspect) → Option Breach
fault_in (Profile forms) classes files = None
fault_in JastAdd classes files = fault_below classes (spread classes (told_apart classes files))

-- no fault is met, and that holds; or it is told; of want of memory nothing is said
abbrev pub Reads : {T : Type 0} → Option Breach → (T → Type 0) → Result T (Failure Breach) → Type 0
Reads fault P (Ok v) = (fault ≡ None) × P v
Reads fault P (Err (For f)) = fault ≡ Some f
Reads fault P (Err Memory) = Unit {0}

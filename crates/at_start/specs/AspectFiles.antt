-- Which rules aspect files give, and by which fault of which file they are refused.
use Rattle.std.specs.Prelude.{◌≡◌, ◌⊎◌, ℕ, ◌+◌, Bool, true, List, [], ◌∷◌, ◌++◌, length, map, Option, Some, None, Result, Ok, Err}
use Rattle.at_model.specs.Classes.{Classes}
use Rattle.at_model.specs.Declarations.{Declarations, Place as Mark, classes_of}
use Rattle.at_model.specs.Rules.{Rules}
use Rattle.at_model.specs.WellFormed.{IsHierarchy}
use Rattle.at_rules.specs.Circular.{AreCircularLazy}
use Rattle.at_text.specs.Symbols.{PlacedToken, HasTokens}
use Rattle.at_text.specs.declared.place.Place.{Place}
use Rattle.at_text.specs.Place.{first_place}
use Rattle.at_jrag.specs.Syntax.{Aspect}
use Rattle.at_jrag.specs.Grammar.{File, IsWithin}
use Rattle.at_jrag.specs.Faults as profile
use Rattle.at_jrag.specs.declared.Forms.{Forms}
use Rattle.at_jrag.specs.declared.JragCode.{JragCode}
use Rattle.at_jrag.specs.declared.JragCode.TheVariants as jrag
use Rattle.at_java.specs.Aliases.{Alias}
use Rattle.at_java.specs.Files.{Contents}
use Rattle.at_java.specs.Files as java_files
use Rattle.at_java.specs.declared.JavaCode.{JavaCode}
use Rattle.at_java.specs.declared.JavaCode.TheVariants as java
use Rattle.at_start.specs.Constants.{Placed, constants_from, planted_classes}
use Rattle.at_start.specs.ConstantFaults.{Refusal, Tells, constants_fault}
use Rattle.at_start.specs.Files.{IsText, IsNoText, max_file}
use Rattle.at_start.specs.Lists.{aliases_in}
use Rattle.at_start.specs.Redeclaring.{fault_in, read_in}
use Rattle.at_typing.specs.Building.{Builds}
use Rattle.at_typing.specs.Located.{Located, located}
use Rattle.at_typing.specs.declared.fault.Breach.{Breach}
use Rattle.at_kinds.specs.declared.arguments.Arguments.{Arguments}
use Rattle.at_kinds.specs.declared.arguments.Arguments.TheVariants.{Given, Computed}
use Rattle.at_kinds.specs.declared.code.RuleCode.{RuleCode}
use Rattle.at_kinds.specs.declared.code.RuleCode.TheVariants as rule
use Rattle.at_text.specs.declared.fault.Failure.{Failure}
use Rattle.at_text.specs.declared.fault.Failure.TheVariants.{For, Memory}
use Rattle.at_start.specs.declared.code.Code.{Code}
use Rattle.at_start.specs.declared.code.Code.TheVariants as code
use Rattle.at_start.specs.declared.language.Language.{Language}
use Rattle.at_start.specs.declared.language.Language.TheVariants.{Profile, JastAdd}
use Rattle.at_text.specs.declared.fault.Fault.{Fault}
use Rattle.at_text.specs.declared.fault.Fault.TheVariants as fault
use Rattle.at_start.specs.declared.fault.StartFault.{StartFault}
use Rattle.at_start.specs.declared.fault.StartFault.TheVariants as start

-- the text spells the aspects where these forms are read, and their expressions don't nest too deep
pub record Spells (forms : Forms) (text : List ℕ) (aspects : List Aspect) : Type 0 where
  pub tokens : List PlacedToken
  pub cut : HasTokens text tokens
  pub spells : File forms aspects tokens []
  pub within : IsWithin aspects

-- what is written in the text, in that language, where names stand for others: aspects and, in JastAdd's own, constants
abbrev pub IsWritten : Language → List Alias → (text : List ℕ) → Contents → Type 0
IsWritten (Profile forms) names text contents = Spells forms text contents.aspects × (contents.constants ≡ [])
IsWritten JastAdd names text contents = java_files.Holds names text contents

-- whether circular attributes are read in the language
abbrev pub reads_circular : Language → Bool
reads_circular (Profile forms) = forms.circular
reads_circular JastAdd = true

-- what may be an argument of an attribute in the language
abbrev pub arguments_in : Language → Arguments
arguments_in (Profile forms) = Given
arguments_in JastAdd = Computed

-- the file is a text in which this is written
pub record Holds (language : Language) (names : List Alias) (bytes : List ℕ) (contents : Contents) : Type 0 where
  pub text : IsText max_file bytes
  pub written : IsWritten language names bytes contents

-- each file holds its contents
abbrev pub AllHold : Language → List Alias → List (List ℕ) → List Contents → Type 0
AllHold language names [] [] = Unit {0}
AllHold language names [] (c ∷ cs) = ⊥
AllHold language names (f ∷ fs) [] = ⊥
AllHold language names (f ∷ fs) (c ∷ cs) = Holds language names f c × AllHold language names fs cs

-- the aspects of each file
abbrev pub aspects_in : List Contents → List (List Aspect)
aspects_in contents = map (λ c. c.aspects) contents

-- each file holds contents, and these are their aspects and their constants
pub record AllGive (language : Language) (names : List Alias) (files : List (List ℕ)) (aspects : List (List Aspect)) (constants : List Placed)
    : Type 0 where
  pub contents : List Contents
  pub hold : AllHold language names files contents
  pub aspects_are : aspects ≡ aspects_in contents
  pub constants_are : constants ≡ constants_from 1 contents

abbrev pub jrag_code : JragCode → Code
jrag_code jrag.Syntax = code.AspectSyntax
jrag_code jrag.LeftOut = code.AspectFormLeftOut
jrag_code jrag.Nesting = code.AspectLimit

abbrev pub java_code : JavaCode → Code
java_code java.Syntax = code.AspectSyntax
java_code java.LeftOut = code.AspectFormLeftOut
java_code java.Limit = code.AspectLimit
java_code java.NoValue = code.Kind

-- the file is refused by the code at the place: it is no text, or this is the fault of its text in the language
pub data RefusesReading : Language → List Alias → (bytes : List ℕ) → Code → Place → Type 0 where
  no_text : {language : Language} {names : List Alias} {bytes : List ℕ} (c : Code)
      → IsNoText max_file bytes code.AspectLimit code.AspectSyntax c → RefusesReading language names bytes c first_place
  no_aspects : {forms : Forms} {names : List Alias} {bytes : List ℕ} (c : JragCode) (at : Place) → IsText max_file bytes
      → profile.IsFault forms bytes (fault.Refused c at) → RefusesReading (Profile forms) names bytes (jrag_code c) at
  no_java : {names : List Alias} {bytes : List ℕ} (c : JavaCode) (at : Place) → IsText max_file bytes
      → java_files.IsFault names bytes (fault.Refused c at) → RefusesReading JastAdd names bytes (java_code c) at

-- the fault is one by which the file is refused; of want of memory nothing is said
abbrev pub IsReadingFaultOf : Language → List Alias → List ℕ → Fault Code → Type 0
IsReadingFaultOf language names bytes (fault.Refused c at) = RefusesReading language names bytes c at
IsReadingFaultOf language names bytes fault.Memory = Unit {0}

-- The fault is that of the first file that can't be read, by its number from 1; of want of memory nothing is said.
pub record IsUnreadAt (language : Language) (names : List Alias) (files : List (List ℕ)) (file : ℕ) (c : Code) (at : Place) : Type 0 where
  pub front : List (List ℕ)
  pub rest : List (List ℕ)
  pub bytes : List ℕ
  pub contents : List Contents
  pub split : files ≡ front ++ bytes ∷ rest
  pub hold : AllHold language names front contents
  pub refuses : RefusesReading language names bytes c at
  pub number : file ≡ length front + 1

abbrev pub IsUnread : Language → List Alias → List (List ℕ) → StartFault → Type 0
IsUnread language names files (start.Refused file c (Some at)) = IsUnreadAt language names files file c at
IsUnread language names files (start.Refused file c None) = ⊥
IsUnread language names files start.Memory = Unit {0}

-- The rules that these declarations make, or their first fault; where there is a fault before them it is that one. Of want of memory
-- nothing is said.
abbrev pub BuildsBehind : Arguments → Classes → Option Breach → List Located → Result Rules (Failure Breach) → Type 0
BuildsBehind allowed classes None ds result = Builds allowed classes ds result
BuildsBehind allowed classes (Some f) ds (Ok rules) = ⊥
BuildsBehind allowed classes (Some f) ds (Err (For g)) = g ≡ f
BuildsBehind allowed classes (Some f) ds (Err Memory) = Unit {0}

-- the rules that aspects make, as they are read in the language
abbrev pub Makes : Language → Classes → List (List Aspect) → Result Rules (Failure Breach) → Type 0
Makes language classes aspects result =
    BuildsBehind (arguments_in language) classes (fault_in language classes aspects) (located 1 (read_in language classes aspects)) result

-- The files in that language give the rules over the classes that are declared, with components marked so: each file holds aspects and
-- constants, all constants can stand, and over the classes in which they are fixed all declarations together make the rules.
pub record GivesRules (language : Language) (marks : List Mark) (ds : Declarations) (files : List (List ℕ)) (rules : Rules) : Type 0 where
  pub aspects : List (List Aspect)
  pub constants : List Placed
  pub given : AllGive language (aliases_in language (classes_of ds)) files aspects constants
  pub stand : constants_fault marks ds constants ≡ None
  pub built : Makes language (planted_classes marks ds constants) aspects (Ok rules)

-- a rule's code among those of all files
abbrev pub rule_code : RuleCode → Code
rule_code rule.Limit = code.AspectLimit
rule_code rule.NameOfAccessor = code.NameOfAccessor
rule_code rule.AttributeTwice = code.AttributeTwice
rule_code rule.UnknownName = code.UnknownName
rule_code rule.Argument = code.Argument
rule_code rule.Kind = code.Kind
rule_code rule.EquationTwice = code.EquationTwice
rule_code rule.ClassWithoutEquation = code.ClassWithoutEquation
rule_code rule.InheritedWithoutEquation = code.InheritedWithoutEquation
rule_code rule.EquationWithoutAttribute = code.EquationWithoutAttribute

-- The files are refused by the code at the place of the file of that number: it is the first that can't be read; or all can, and it is
-- the fault of their constants, which is one of the grammar where a component lacks its own; or these can stand, and it is the first fault
-- of their declarations.
pub data RefusesAspects (language : Language) (marks : List Mark) (ds : Declarations) (files : List (List ℕ)) : (file : ℕ) → Code → Place
    → Type 0 where
  no_file : (file : ℕ) (c : Code) (at : Place) → IsUnreadAt language (aliases_in language (classes_of ds)) files file c at
      → RefusesAspects language marks ds files file c at
  no_constant : (aspects : List (List Aspect)) (constants : List Placed) (r : Refusal)
      → AllGive language (aliases_in language (classes_of ds)) files aspects constants
      → constants_fault marks ds constants ≡ Some r → RefusesAspects language marks ds files r.file r.code r.at
  breaks : (aspects : List (List Aspect)) (constants : List Placed) (f : Breach)
      → AllGive language (aliases_in language (classes_of ds)) files aspects constants
      → constants_fault marks ds constants ≡ None → Makes language (planted_classes marks ds constants) aspects (Err (For f))
      → RefusesAspects language marks ds files f.file (rule_code f.code) f.at

-- the fault is one by which the files are refused; of want of memory nothing is said
abbrev pub IsAspectFault : Language → List Mark → Declarations → List (List ℕ) → StartFault → Type 0
IsAspectFault language marks ds files (start.Refused file c (Some at)) = RefusesAspects language marks ds files file c at
IsAspectFault language marks ds files (start.Refused file c None) = ⊥
IsAspectFault language marks ds files start.Memory = Unit {0}

-- the fault is the first of the declarations, in the file of its number and at its place; of want of memory nothing is said
abbrev pub IsRuleFault : Language → Classes → List (List Aspect) → StartFault → Type 0
IsRuleFault language classes aspects (start.Refused file c at) =
    (f : Breach) × Makes language classes aspects (Err (For f)) × (file ≡ f.file) × (c ≡ rule_code f.code) × (at ≡ Some f.at)
IsRuleFault language classes aspects start.Memory = Unit {0}

-- The rules of what was read, whose constants can stand; or the fault of these, or else the first one of the declarations.
abbrev pub IsRuled : Language → List Mark → Declarations → List (List Aspect) → List Placed → Result Rules StartFault → Type 0
IsRuled language marks ds aspects constants (Ok rules) = (constants_fault marks ds constants ≡ None) × IsHierarchy (planted_classes marks ds constants)
    × AreCircularLazy rules × Makes language (planted_classes marks ds constants) aspects (Ok rules)
IsRuled language marks ds aspects constants (Err e) = Tells (constants_fault marks ds constants) e
    ⊎ ((constants_fault marks ds constants ≡ None) × IsRuleFault language (planted_classes marks ds constants) aspects e)

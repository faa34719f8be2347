-- Which classes a grammar file declares, and by which fault it is refused.
use Rattle.std.specs.Prelude.{◌≡◌, ℕ, List, [], map, Some, None}
use Rattle.at_model.specs.Declarations.{Declarations, Declaration, PartDeclaration, first_fault}
use Rattle.at_model.specs.Declarations as grammar
use Rattle.at_text.specs.declared.place.Place.{Place}
use Rattle.at_text.specs.Symbols.{PlacedToken, HasTokens}
use Rattle.at_text.specs.Place.{first_place}
use Rattle.at_grammar.specs.Grammar as written
use Rattle.at_grammar.specs.Meaning.{Component, Class, class_means}
use Rattle.at_grammar.specs.Faults.{Spells, IsFault}
use Rattle.at_grammar.specs.declared.AstCode.{AstCode}
use Rattle.at_grammar.specs.declared.AstCode.TheVariants as ast
use Rattle.at_class.specs.Grammar.{form_view, place_view}
use Rattle.at_class.specs.Faults.{code_view}
use Rattle.at_class.specs.declared.fault.ClassCode.{ClassCode}
use Rattle.at_class.specs.declared.fault.ClassCode.TheVariants as class
use Rattle.at_start.specs.Files.{IsText, IsNoText, max_file}
use Rattle.at_start.specs.declared.code.Code.{Code}
use Rattle.at_start.specs.declared.code.Code.TheVariants as code
use Rattle.at_start.specs.declared.language.Language.{Language}
use Rattle.at_start.specs.declared.language.Language.TheVariants.{Profile, JastAdd}
use Rattle.at_start.specs.Slashes.{Unslashes}
use Rattle.at_text.specs.declared.fault.Fault.{Fault}
use Rattle.at_text.specs.declared.fault.Fault.TheVariants as fault

abbrev pub part_declared : Component → PartDeclaration
part_declared p = record { name = p.name; kind = p.kind; form = form_view p.shape; at = place_view p.at }

abbrev pub class_declared : Class → Declaration
class_declared c = record { name = c.name; is_abstract = c.is_abstract; parent = c.parent; parts = map part_declared c.parts; at = place_view c.at }

-- what a grammar as written declares
abbrev pub declared : List written.Declaration → Declarations
declared f = map class_declared (map class_means f)

-- the text spells a grammar that declares this
pub record Declares (text : List ℕ) (ds : Declarations) : Type 0 where
  pub tokens : List PlacedToken
  pub grammar : List written.Declaration
  pub cut : HasTokens text tokens
  pub spells : Spells tokens grammar
  pub means : ds ≡ declared grammar

-- In the language the grammar of the text is read of this one, with these marks: of the text itself, or in JastAdd's own of that in which
-- slashes are blanks.
abbrev pub IsReadOf : Language → (text read : List ℕ) → (marks : List grammar.Place) → Type 0
IsReadOf (Profile forms) text read marks = (read ≡ text) × (marks ≡ [])
IsReadOf JastAdd text read marks = Unslashes text read marks

-- The file gives the declarations of classes, and marks of components: they are those of its text in the language, and no rule is broken.
pub record GivesGrammar (language : Language) (bytes : List ℕ) (ds : Declarations) (marks : List grammar.Place) : Type 0 where
  pub text : IsText max_file bytes
  pub read : List ℕ
  pub is_read : IsReadOf language bytes read marks
  pub declares : Declares read ds
  pub faultless : first_fault ds ≡ None

abbrev pub class_code : ClassCode → Code
class_code class.ClassTwice = code.ClassTwice
class_code class.UnknownClass = code.UnknownClass
class_code class.SuperclassCircle = code.SuperclassCircle
class_code class.ComponentTwice = code.ComponentTwice
class_code class.TokenKind = code.TokenKind
class_code class.Limit = code.GrammarLimit
class_code class.NoClass = code.NoClass

abbrev pub ast_code : AstCode → Code
ast_code ast.Syntax = code.GrammarSyntax
ast_code ast.LeftOut = code.GrammarFormLeftOut

-- What is read is refused by the code at the place: it is no grammar, or this is the first rule that its classes break.
pub data RefusesRead (read : List ℕ) : Code → Place → Type 0 where
  no_grammar : (c : AstCode) (at : Place) → IsFault read (fault.Refused c at) → RefusesRead read (ast_code c) at
  breaks : (ds : Declarations) (c : ClassCode) (at : Place) → Declares read ds
      → first_fault ds ≡ Some (record { code = code_view c; at = place_view at }) → RefusesRead read (class_code c) at

-- The file is refused by the code at the place: it is no text, or what is read of its text is refused.
pub data RefusesGrammar (language : Language) (bytes : List ℕ) : Code → Place → Type 0 where
  no_text : (c : Code) → IsNoText max_file bytes code.GrammarLimit code.GrammarSyntax c → RefusesGrammar language bytes c first_place
  no_read : (read : List ℕ) (marks : List grammar.Place) (c : Code) (at : Place) → IsText max_file bytes
      → IsReadOf language bytes read marks → RefusesRead read c at → RefusesGrammar language bytes c at

-- the fault is one by which what is read is refused; of want of memory nothing is said
abbrev pub IsReadFault : List ℕ → Fault Code → Type 0
IsReadFault read (fault.Refused c at) = RefusesRead read c at
IsReadFault read fault.Memory = Unit {0}

-- the same of the file
abbrev pub IsGrammarFault : Language → List ℕ → Fault Code → Type 0
IsGrammarFault language bytes (fault.Refused c at) = RefusesGrammar language bytes c at
IsGrammarFault language bytes fault.Memory = Unit {0}

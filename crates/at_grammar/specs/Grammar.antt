-- Abstract grammars as they are written, and by which tokens each is spelled (.ast, JastAdd2 reference manual).
use Rattle.std.specs.Prelude.{◌≡◌, ℕ, List, [], ◌∷◌, ◌++◌, Bool, true, ◌||◌, Option, Some, None}
use Rattle.std.specs.List.{flat_map, AllByRecursion}
use Rattle.std.specs.Str.{bytes_eq}
use lib.Chars.{codes}
use Rattle.at_model.specs.Names.{is_name}
use Rattle.at_text.specs.Symbols.{Symbol, word, sign}
use Rattle.at_text.specs.declared.place.Place.{Place}

-- a word, with the line and the column where it begins
pub record Word : Type 0 where
  pub text : List ℕ
  pub at : Place

-- a name, and what stands behind its colon, if one is written
pub record Typed : Type 0 where
  pub name : Word
  pub kind : Option Word

-- a component: a child, a list of children, a child that may be absent, a token
pub data Part : Type 0 where
  Child : Typed → Part
  Children : Typed → Part
  Optional : Typed → Part
  Token : Typed → Part

-- a class: where the word `abstract` begins, its name, its superclass, and the components behind `::=`, each if written
pub record Declaration : Type 0 where
  pub abstract_at : Option Place
  pub name : Word
  pub parent : Option Word
  pub parts : Option (List Part)

-- ---- how each is spelled

abbrev pub name : Word → Symbol
name w = word w.text w.at

-- [":" name]
abbrev pub kind : Option Word → List Symbol
kind None = []
kind (Some k) = sign (codes ":") ∷ name k ∷ []

-- name [":" name]
abbrev pub typed : Typed → List Symbol
typed t = name t.name ∷ kind t.kind

-- typed | typed "*" | "[" typed "]" | "<" typed ">"
abbrev pub part : Part → List Symbol
part (Child t) = typed t
part (Children t) = typed t ++ sign (codes "*") ∷ []
part (Optional t) = sign (codes "[") ∷ (typed t ++ sign (codes "]") ∷ [])
part (Token t) = sign (codes "<") ∷ (typed t ++ sign (codes ">") ∷ [])

-- { part } ";"
abbrev pub parts : List Part → List Symbol
parts ps = flat_map part ps ++ sign (codes ";") ∷ []

-- ["::=" { part }] ";"
abbrev pub body : Option (List Part) → List Symbol
body None = sign (codes ";") ∷ []
body (Some ps) = sign (codes "::=") ∷ parts ps

-- ["abstract"]
abbrev pub modifier : Option Place → List Symbol
modifier None = []
modifier (Some at) = word (codes "abstract") at ∷ []

-- ["abstract"] name [":" name]
abbrev pub head : Declaration → List Symbol
head d = modifier d.abstract_at ++ name d.name ∷ kind d.parent

-- ["abstract"] name [":" name] ["::=" { part }] ";"
abbrev pub declaration : Declaration → List Symbol
declaration d = head d ++ body d.parts

-- { decl }
abbrev pub file : List Declaration → List Symbol
file = flat_map declaration

-- ---- which there are

abbrev pub IsName : Word → Type 0
IsName w = is_name w.text ≡ true

-- the kinds of tokens that are no names
abbrev pub is_basic_kind : List ℕ → Bool
is_basic_kind text = bytes_eq text (codes "String") || bytes_eq text (codes "int") || bytes_eq text (codes "boolean")

-- name | "String" | "int" | "boolean"
abbrev pub is_token_kind : List ℕ → Bool
is_token_kind text = is_name text || is_basic_kind text

abbrev pub IsTokenKind : Word → Type 0
IsTokenKind w = is_token_kind w.text ≡ true

-- what is written satisfies it
abbrev pub IfWritten : (Word → Type 0) → Option Word → Type 0
IfWritten P None = Unit {0}
IfWritten P (Some w) = P w

abbrev pub IsTyped : Typed → Type 0
IsTyped t = IsName t.name × IfWritten IsName t.kind

abbrev pub IsToken : Typed → Type 0
IsToken t = IsName t.name × IfWritten IsTokenKind t.kind

abbrev pub IsPart : Part → Type 0
IsPart (Child t) = IsTyped t
IsPart (Children t) = IsTyped t
IsPart (Optional t) = IsTyped t
IsPart (Token t) = IsToken t

abbrev pub AreParts : List Part → Type 0
AreParts = AllByRecursion IsPart

abbrev pub IsBody : Option (List Part) → Type 0
IsBody None = Unit {0}
IsBody (Some ps) = AreParts ps

abbrev pub IsDeclaration : Declaration → Type 0
IsDeclaration d = IsName d.name × IfWritten IsName d.parent × IsBody d.parts

abbrev pub IsFile : List Declaration → Type 0
IsFile = AllByRecursion IsDeclaration

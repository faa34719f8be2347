-- Where a text is refused.
use Rattle.std.specs.Prelude.{◌≡◌, ℕ, List, [], ◌∷◌, ◌++◌, Option, Some, ◌⊎◌}
use Rattle.std.specs.List.{flat_map}
use lib.Chars.{codes}
use Rattle.at_text.specs.declared.scan.ScanFault.{ScanFault}
use Rattle.at_text.specs.declared.scan.ScanFault.TheVariants as scan
use Rattle.at_text.specs.Faults as scanning
use Rattle.at_text.specs.Place.{place_of}
use Rattle.at_text.specs.Reading.{first, IsFirstFault}
use Rattle.at_text.specs.Symbols.{PlacedToken, HasTokens, next_place, Symbol, sign, symbols, words_keep}
use Rattle.at_text.specs.declared.place.Place.{Place}
use Rattle.at_text.specs.declared.fault.Fault.{Fault}
use Rattle.at_text.specs.declared.fault.Fault.TheVariants.{Refused, Memory}
use Rattle.at_grammar.specs.declared.AstCode.{AstCode}
use Rattle.at_grammar.specs.declared.AstCode.TheVariants.{Syntax, LeftOut}
use Rattle.at_grammar.specs.Grammar as grammar
use Rattle.at_grammar.specs.Grammar.{Word, IsName, IsTokenKind, Part, AreParts, Declaration, IsDeclaration, IsFile}

-- the tokens spell the file
abbrev pub Spells : List PlacedToken → List Declaration → Type 0
Spells tokens file = IsFile file × (symbols words_keep tokens ≡ grammar.file file)

-- ---- forms of JastAdd's grammars that are left out

-- a kind of several names, or with arguments, goes on so
abbrev pub GoesOnKind : Option Symbol → Type 0
GoesOnKind s = (s ≡ Some (sign (codes "."))) ⊎ (s ≡ Some (sign (codes "<")))

-- a `<`, a token's name and its kind
abbrev pub IsTokenFront : List Symbol → Type 0
IsTokenFront front = (name : Word) × (kind : Word) × IsName name × IsTokenKind kind
    × (front ≡ sign (codes "<") ∷ grammar.name name ∷ sign (codes ":") ∷ grammar.name kind ∷ [])

-- among components: behind whole ones a `/` (a component that is computed), or more of a token's kind
abbrev pub LeftOutOfParts : List Symbol → Option Symbol → Type 0
LeftOutOfParts front s = (ps : List Part) × (more : List Symbol) × AreParts ps × (front ≡ flat_map grammar.part ps ++ more)
    × (((more ≡ []) × (s ≡ Some (sign (codes "/")))) ⊎ (IsTokenFront more × GoesOnKind s))

-- behind whole declarations, a class's head and `::=`, the front is among components, and what comes next is left out there
abbrev pub IsLeftOut : List Symbol → Option Symbol → Type 0
IsLeftOut front s = (ds : List Declaration) × (d : Declaration) × (more : List Symbol) × IsFile ds × IsDeclaration d
    × (front ≡ grammar.file ds ++ (grammar.head d ++ sign (codes "::=") ∷ more)) × LeftOutOfParts more s

-- ---- the faults

-- The front begins a file. No file goes on with the token after it, or with the end of the text; its place is this.
pub record StopsAt (text : List ℕ) (front rest : List PlacedToken) (at : Place) : Type 0 where
  pub tokens : HasTokens text (front ++ rest)
  pub fault : IsFirstFault IsFile grammar.file (symbols words_keep front) (symbols words_keep rest)
  pub place : at ≡ next_place text rest

-- the form that begins behind the front is left out
abbrev pub MeetsLeftOut : List PlacedToken → List PlacedToken → Type 0
MeetsLeftOut front rest = IsLeftOut (symbols words_keep front) (first (symbols words_keep rest))

-- the text is no row of tokens, and this is the place where it can't be cut further
abbrev pub IsScanFaultAt : List ℕ → Place → ScanFault → Type 0
IsScanFaultAt text at scan.Memory = ⊥
IsScanFaultAt text at (scan.Bad offset) = scanning.FaultsAt text (scan.Bad offset) × (at ≡ place_of text offset)
IsScanFaultAt text at (scan.OpenText offset) = scanning.FaultsAt text (scan.OpenText offset) × (at ≡ place_of text offset)
IsScanFaultAt text at (scan.OpenComment offset) = scanning.FaultsAt text (scan.OpenComment offset) × (at ≡ place_of text offset)

-- the fault of the text; of want of memory nothing is said
abbrev pub IsFault : List ℕ → Fault AstCode → Type 0
IsFault text Memory = Unit {0}
IsFault text (Refused Syntax at) = ((fault : ScanFault) × IsScanFaultAt text at fault)
    ⊎ ((front : List PlacedToken) × (rest : List PlacedToken) × StopsAt text front rest at × (MeetsLeftOut front rest → ⊥))
IsFault text (Refused LeftOut at) = (front : List PlacedToken) × (rest : List PlacedToken) × StopsAt text front rest at × MeetsLeftOut front rest

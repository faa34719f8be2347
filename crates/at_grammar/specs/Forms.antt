-- The forms of the grammar, and what the reader's methods say of them.
use Rattle.std.specs.Prelude.{◌≡◌, ℕ, List, [], ◌∷◌, ◌++◌, Option, Some, None, Result}
use lib.Chars.{codes}
use Rattle.at_text.specs.declared.placed.Placed.{Placed}
use Rattle.at_text.specs.Reading as reading
use Rattle.at_text.specs.Machine.{Reason, Refused, LeftOut}
use Rattle.at_text.specs.Reading.{Form}
use Rattle.at_text.specs.Symbols.{Symbol, sign, symbols, words_keep}
use Rattle.at_text.specs.Rows as rows
use Rattle.at_text.specs.declared.place.Place.{Place}
use Rattle.at_text.specs.declared.fault.Failure.{Failure}
use Rattle.at_text.specs.declared.fault.Failure.TheVariants as failure
use Rattle.at_grammar.specs.declared.AstCode.{AstCode}
use Rattle.at_grammar.specs.declared.AstCode.TheVariants as code
use Rattle.at_grammar.specs.Grammar as grammar
use Rattle.at_grammar.specs.Grammar.{Word, Typed, Part, Declaration, IsName, IsTokenKind, IfWritten, IsTyped, IsToken, IsPart, AreParts, IsBody, IsDeclaration, IsFile}
use Rattle.at_grammar.specs.Faults.{GoesOnKind, IsTokenFront, LeftOutOfParts, IsLeftOut}
use Rattle.at_grammar.specs.Table as want
use Rattle.at_grammar.specs.Table.{Want, table}

-- the tokens that are left, as the grammar sees them
abbrev pub left : List Placed → List Symbol
left ts = symbols words_keep (rows.left ts)

abbrev pub reason : AstCode → Reason
reason code.Syntax = Refused
reason code.LeftOut = LeftOut

-- why reading stops, if it isn't for want of memory
abbrev pub reason_of : Failure AstCode → Option Reason
reason_of (failure.For c) = Some (reason c)
reason_of failure.Memory = None

-- A form was read, or the reader stands where it stops.
abbrev pub Parses : {V A : Type 0} → Form Symbol Want V → (V → A → Type 0) → Result A (Failure AstCode) → List Placed → List Placed → Type 0
Parses form Means r old rest = reading.Parses table reason_of form Means r (left old) (left rest)

-- nothing in the form is left out
abbrev pub Never : List Symbol → Option Symbol → Type 0
Never front s = ⊥

abbrev pub name : Form Symbol Want Word
name = record { want = want.Name; spell = λ w. grammar.name w ∷ []; Is = IsName; LeavesAt = Never }

abbrev pub kind_name : Form Symbol Want Word
kind_name = record { want = want.KindName; spell = λ w. grammar.name w ∷ []; Is = IsTokenKind; LeavesAt = Never }

abbrev pub mark : List ℕ → Form Symbol Want (Unit {0})
mark text = record { want = want.Mark text; spell = λ _. sign text ∷ []; Is = λ _. Unit {0}; LeavesAt = Never }

abbrev pub kind : Form Symbol Want (Option Word)
kind = record { want = want.Kind; spell = grammar.kind; Is = IfWritten IsName; LeavesAt = Never }

abbrev pub typed : Form Symbol Want Typed
typed = record { want = want.Typed; spell = grammar.typed; Is = IsTyped; LeavesAt = Never }

-- a child, or a list of them
abbrev pub IsChild : Part → Type 0
IsChild (grammar.Child t) = IsTyped t
IsChild (grammar.Children t) = IsTyped t
IsChild (grammar.Optional t) = ⊥
IsChild (grammar.Token t) = ⊥

abbrev pub child : Form Symbol Want Part
child = record { want = want.Child; spell = grammar.part; Is = IsChild; LeavesAt = Never }

abbrev pub optional : Form Symbol Want Typed
optional = record { want = want.Optional; spell = λ t. grammar.typed t ++ sign (codes "]") ∷ []; Is = IsTyped; LeavesAt = Never }

-- behind a token's kind
abbrev pub close : Form Symbol Want (Unit {0})
close = record { want = want.Close; spell = λ _. sign (codes ">") ∷ []; Is = λ _. Unit {0}; LeavesAt = λ front s. (front ≡ []) × GoesOnKind s }

-- behind a token's name
abbrev pub token_kind : Form Symbol Want (Option Word)
token_kind = record {
  want = want.TokenKind;
  spell = λ k. grammar.kind k ++ sign (codes ">") ∷ [];
  Is = IfWritten IsTokenKind;
  LeavesAt = λ front s. (k : Word) × IsTokenKind k × (front ≡ sign (codes ":") ∷ grammar.name k ∷ []) × GoesOnKind s;
}

-- behind a token's `<`
abbrev pub token : Form Symbol Want Typed
token = record {
  want = want.Token;
  spell = λ t. grammar.typed t ++ sign (codes ">") ∷ [];
  Is = IsToken;
  LeavesAt = λ front s. IsTokenFront (sign (codes "<") ∷ front) × GoesOnKind s;
}

abbrev pub part : Form Symbol Want Part
part = record { want = want.Part; spell = grammar.part; Is = IsPart; LeavesAt = λ front s. IsTokenFront front × GoesOnKind s }

abbrev pub parts : Form Symbol Want (List Part)
parts = record { want = want.Parts; spell = grammar.parts; Is = AreParts; LeavesAt = LeftOutOfParts }

abbrev pub body : Form Symbol Want (Option (List Part))
body = record {
  want = want.Body;
  spell = grammar.body;
  Is = IsBody;
  LeavesAt = λ front s. (more : List Symbol) × (front ≡ sign (codes "::=") ∷ more) × LeftOutOfParts more s;
}

abbrev pub modifier : Form Symbol Want (Option Place)
modifier = record { want = want.Modifier; spell = grammar.modifier; Is = λ _. Unit {0}; LeavesAt = Never }

abbrev pub declaration : Form Symbol Want Declaration
declaration = record {
  want = want.Declaration;
  spell = grammar.declaration;
  Is = IsDeclaration;
  LeavesAt = λ front s. (d : Declaration) × (more : List Symbol) × IsDeclaration d × (front ≡ grammar.head d ++ sign (codes "::=") ∷ more)
      × LeftOutOfParts more s;
}

abbrev pub file : Form Symbol Want (List Declaration)
file = record { want = want.File; spell = grammar.file; Is = IsFile; LeavesAt = IsLeftOut }

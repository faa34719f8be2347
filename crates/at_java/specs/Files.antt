-- Files of aspects: what a text holds, or its fault.
use Rattle.std.specs.Prelude.{◌≡◌, ℕ, zero, suc, List, [], ◌∷◌, ◌++◌, Bool, true, false, cond, not, ◌⊎◌}
use Rattle.std.specs.List.{filter_map}
use lib.Chars.{codes}
use Rattle.at_text.specs.Symbols.{PlacedToken, HasTokens, next_place}
use Rattle.at_text.specs.Rows.{Row, is_sign, is_word}
use Rattle.at_text.specs.Place.{place_of}
use Rattle.at_text.specs.Faults.{FaultsAt}
use Rattle.at_text.specs.declared.place.Place.{Place}
use Rattle.at_text.specs.declared.scan.ScanFault.{ScanFault}
use Rattle.at_text.specs.declared.scan.ScanFault.TheVariants as scan
use Rattle.at_text.specs.declared.fault.Fault as text_fault
use Rattle.at_text.specs.declared.fault.Fault.TheVariants.{Refused, Memory}
use Rattle.at_jrag.specs.Syntax.{Aspect, Decl}
use Rattle.at_java.specs.Read.{Read, Fault, got, fails, here, at_place, then_read, map_read}
use Rattle.at_java.specs.Tokens.{sign_here, name}
use Rattle.at_java.specs.Next.{after_word, other_code}
use Rattle.at_java.specs.Items.{Closed, items_until}
use Rattle.at_java.specs.Aliases.{Alias, resolved_row}
use Rattle.at_java.specs.Declarations.{Constant, Declared, declaration}
use Rattle.at_java.specs.declared.JavaCode.{JavaCode}
use Rattle.at_java.specs.declared.JavaCode.TheVariants.{Syntax, Limit}

-- ---- aspects

abbrev pub most_declarations : ℕ
most_declarations = 65536

-- what comes of declarations among the aspects, and the constants that they declare, in their order
pub record Declarations : Type 0 where
  pub decls : List Decl
  pub constants : List Constant
  pub end : Place

abbrev pub sorted : Closed Declared → Declarations
sorted c = record { decls = filter_map (λ d. d.decl) c.items; constants = filter_map (λ d. d.constant) c.items; end = c.end }

-- { declaration } "}"
abbrev pub declarations : Row → Read Declarations
declarations row = map_read sorted (items_until declaration most_declarations row)

-- an aspect, and the constants that it declares
pub record Part : Type 0 where
  pub aspect : Aspect
  pub constants : List Constant

-- name "{" declarations
abbrev pub named_aspect : Row → Read Part
named_aspect row = then_read (name row) (λ w rest. then_read (sign_here (codes "{") rest) (λ paren inner.
    then_read (declarations inner) (λ ds left. got (record { aspect = record { name = w; decls = ds.decls }; constants = ds.constants }) left)))

-- "aspect" and that
abbrev pub aspect : Row → Read Part
aspect row = after_word (codes "aspect") row (λ at rest. named_aspect rest) (fails (here (other_code row) row))

abbrev pub most_aspects : ℕ
most_aspects = 65536

-- what a file holds: aspects, and the constants that they declare, in the order of the file
pub record Contents : Type 0 where
  pub aspects : List Aspect
  pub constants : List Constant

abbrev pub nothing : Contents
nothing = record { aspects = []; constants = [] }

abbrev pub in_front : Part → Contents → Contents
in_front p c = record { aspects = p.aspect ∷ c.aspects; constants = p.constants ++ c.constants }

abbrev pub with_part : Contents → Part → Contents
with_part c p = record { aspects = c.aspects ++ p.aspect ∷ []; constants = c.constants ++ p.constants }

-- at most so many, up to the end
unfoldable pub aspects : ℕ → Row → Read Contents
aspects n [] = got nothing []
aspects zero (t ∷ ts) = fails (here Limit (t ∷ ts))
aspects (suc n) (t ∷ ts) = then_read (aspect (t ∷ ts)) (λ p rest. then_read (aspects n rest) (λ more left. got (in_front p more) left))

-- { "import" .. ";" }, from here or from within one of them: what is left behind them
unfoldable pub imports : (within : Bool) → Row → Read (Unit {0})
imports true [] = fails (here Syntax [])
imports true (t ∷ ts) = imports (not (is_sign (codes ";") t)) ts
imports false [] = got tt []
imports false (t ∷ ts) = cond (is_word (codes "import") t) (imports true ts) (got tt (t ∷ ts))

-- what the tokens spell: all are read, so that none is left behind
abbrev pub contents_in : Row → Read Contents
contents_in row = then_read (imports false row) (λ u rest. aspects most_aspects rest)

-- the same, where names stand for others
abbrev pub contents_of : List Alias → Row → Read Contents
contents_of aliases row = contents_in (resolved_row aliases row)

-- ---- faults

-- the code and the place by which a fault is told
abbrev pub told : List ℕ → Fault → text_fault.Fault JavaCode
told text (here code rest) = Refused code (next_place text rest)
told text (at_place code at) = Refused code at

-- what is answered for a text that can't be cut into tokens
abbrev pub uncut : List ℕ → ScanFault → text_fault.Fault JavaCode
uncut text scan.Memory = Memory
uncut text (scan.Bad offset) = Refused Syntax (place_of text offset)
uncut text (scan.OpenText offset) = Refused Syntax (place_of text offset)
uncut text (scan.OpenComment offset) = Refused Syntax (place_of text offset)

-- the text is no row of tokens, and this is the place where it can't be cut further
abbrev pub IsUncutAt : List ℕ → Place → ScanFault → Type 0
IsUncutAt text at fault = FaultsAt text fault × (uncut text fault ≡ Refused Syntax at)

-- this is told of what was read; of want of memory nothing is said
abbrev pub IsFaultOf : {A : Type 0} → List ℕ → Read A → text_fault.Fault JavaCode → Type 0
IsFaultOf text read Memory = Unit {0}
IsFaultOf text read (Refused code at) = (fault : Fault) × (read ≡ fails fault) × (told text fault ≡ Refused code at)

-- ---- texts

-- what the text holds
pub record Holds (aliases : List Alias) (text : List ℕ) (contents : Contents) : Type 0 where
  pub tokens : List PlacedToken
  pub cut : HasTokens text tokens
  pub is : contents_of aliases tokens ≡ got contents []

-- the fault of the text: it can't be cut into tokens, or these spell no aspects; of want of memory nothing is said
abbrev pub IsFault : List Alias → List ℕ → text_fault.Fault JavaCode → Type 0
IsFault aliases text Memory = Unit {0}
IsFault aliases text (Refused code at) = ((fault : ScanFault) × FaultsAt text fault × (uncut text fault ≡ Refused code at))
    ⊎ ((tokens : List PlacedToken) × HasTokens text tokens × IsFaultOf text (contents_of aliases tokens) (Refused code at))

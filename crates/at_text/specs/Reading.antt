-- Reading a text from the left, with one symbol of look ahead. Symbols are what a grammar sees of tokens, and its
-- forms are told apart by the next symbol alone (LL(1): Knuth, "Top-down syntax analysis", 1971).
use Rattle.std.specs.Prelude.{◌≡◌, List, [], ◌∷◌, ◌++◌, true, Option, Some, None, Result, Ok, Err}
use Rattle.at_text.specs.Machine as machine
use Rattle.at_text.specs.Machine.{Reason, Refused, LeftOut, TooDeep, Answer, Outcome, Stuck}

abbrev pub first : {S : Type 0} → List S → Option S
first [] = None
first (s ∷ ss) = Some s

-- ---- the grammar: its values, and where reading stops

-- some value is spelled with this front
abbrev pub Begins : {S V : Type 0} → (V → Type 0) → (V → List S) → List S → Type 0
Begins {S} {V} Is spell front = (value : V) × (more : List S) × Is value × (spell value ≡ front ++ more)

-- The front begins a value, and no value goes on with the symbol after it, or with the end of the text.
pub record IsFirstFault {S V : Type 0} (Is : V → Type 0) (spell : V → List S) (front rest : List S) : Type 0 where
  pub begins : Begins Is spell front
  pub ends : (value : V) (other : List S) → Is value → first other ≡ first rest → spell value ≡ front ++ other → ⊥

-- ---- the machine, with a table that goes by the next symbol alone: its register stays 0, and nothing is beyond a limit

-- the answer of each form to the next symbol, or to the end of the text
abbrev pub Table : Type 0 → Type 0 → Type 0
Table S W = W → Option S → Answer W

-- it takes the symbol, and wants more
abbrev pub takes : {W : Type 0} → List W → Answer W
takes more = machine.Takes true more 0

-- it's there without the symbol
abbrev pub skips : {W : Type 0} → Answer W
skips = machine.Skips 0

abbrev pub by_next : {S W : Type 0} → Table S W → machine.Table S W
by_next table w d s = table w s

abbrev pub run : {S W : Type 0} → Table S W → List W → List S → Outcome S
run table ws ss = machine.run true (by_next table) ws 0 ss

-- ---- what reading a form says

-- a form: what is wanted where it stands, how its values are spelled, which values it has, and after which fronts
-- of it the next symbol begins what is left out
pub record Form (S W V : Type 0) : Type 1 where
  pub want : W
  pub spell : V → List S
  pub Is : V → Type 0
  pub LeavesAt : List S → Option S → Type 0

-- The symbols from old up to rest spell the value.
pub record Reads {S W V : Type 0} (table : Table S W) (form : Form S W V) (value : V) (old rest : List S) : Type 0 where
  pub is : form.Is value
  pub text : old ≡ form.spell value ++ rest
  pub goes : (ws : List W) → run table (form.want ∷ ws) old ≡ run table ws rest

-- for this reason the form stops after the front
abbrev pub IsReason : {S W V : Type 0} → Form S W V → Reason → List S → List S → Type 0
IsReason form Refused front rest = Unit {0}
IsReason form LeftOut front rest = form.LeavesAt front (first rest)
IsReason form TooDeep front rest = ⊥

-- The symbols from old up to rest begin a value, and with the next symbol they begin none.
pub record Stops {S W V : Type 0} (table : Table S W) (form : Form S W V) (reason : Reason) (old rest : List S) : Type 0 where
  pub front : List S
  pub split : old ≡ front ++ rest
  pub begins : Begins form.Is form.spell front
  pub why : IsReason form reason front rest
  pub stuck : (ws : List W) → run table (form.want ∷ ws) old ≡ Stuck reason rest

-- an error with a reason says where the form stops; any other is want of memory
abbrev pub Fails : {S W V : Type 0} → Table S W → Form S W V → Option Reason → List S → List S → Type 0
Fails table form None old rest = Unit {0}
Fails table form (Some reason) old rest = Stops table form reason old rest

-- A form was read, or the reader stands where it stops.
abbrev pub Parses : {S W V A E : Type 0} → Table S W → (E → Option Reason) → Form S W V → (V → A → Type 0) → Result A E → List S → List S → Type 0
Parses {V = V} table reason form Means (Ok a) old rest = (v : V) × Means v a × Reads table form v old rest
Parses table reason form Means (Err e) old rest = Fails table form (reason e) old rest

-- What the reader's methods say of the machine's runs.
use Rattle.std.specs.Prelude.{◌≡◌, ℕ, ◌≤◌, List, [], ◌∷◌, ◌++◌, Bool, true, false, ◌&&◌, Option, Some, None, ◌⊎◌}
use Rattle.std.specs.Str.{bytes_eq}
use lib.Chars.{codes}
use Rattle.at_text.specs.Symbols.{PlacedToken}
use Rattle.at_text.specs.declared.place.Place.{Place}
use Rattle.at_jrag.specs.Syntax.{KindWord}
use Rattle.at_text.specs.Rows.{Row, sign, is_sign, is_word, is_name_token, next_is}
use Rattle.at_jrag.specs.Grammar.{Sign, KindOf, number, is_number}
use Rattle.at_text.specs.Machine.{Reason, Refused, LeftOut, TooDeep, Stuck, run}
use Rattle.at_jrag.specs.Wants.{Want}
use Rattle.at_jrag.specs.Table.{table, is_literal, is_plain, is_quoted, is_kind, is_decimal_within, is_number_within, begins_fold}
use Rattle.at_text.specs.declared.fault.Failure.{Failure}
use Rattle.at_text.specs.declared.fault.Failure.TheVariants as failure
use Rattle.at_jrag.specs.declared.JragCode.{JragCode}
use Rattle.at_jrag.specs.declared.JragCode.TheVariants as code

-- What is wanted, up to this depth, is gone over up to us, which is wanted behind it; of a machine with a limit where it fits.
abbrev pub Goes : (ℕ → Want) → (ℕ → List Want) → ℕ → Row → Row → Type 0
Goes want us depth old rest = (l : Bool) (b : ℕ) → (l ≡ true → depth ≤ b) → (ws : List Want) (d : ℕ)
    → run l table (want b ∷ ws) d old ≡ run l table (us b ++ ws) depth rest

-- from one depth to the other, the machine goes on with what is wanted
abbrev pub Moves : (ℕ → List Want) → (ℕ → List Want) → ℕ → ℕ → Row → Row → Type 0
Moves us vs m n old rest = (l : Bool) (b : ℕ) → (l ≡ true → n ≤ b) → (ws : List Want) → run l table (us b ++ ws) m old ≡ run l table (vs b ++ ws) n rest

abbrev pub reason : JragCode → Reason
reason code.Syntax = Refused
reason code.LeftOut = LeftOut
reason code.Nesting = TooDeep

-- why reading stops, if it isn't for want of memory
abbrev pub reason_of : Failure JragCode → Option Reason
reason_of (failure.For c) = Some (reason c)
reason_of failure.Memory = None

-- for this reason the machine is stuck at the rest, where ws is wanted first
abbrev pub Stays : List Want → ℕ → Option Reason → Row → Row → Type 0
Stays us d None old rest = Unit {0}
Stays us d (Some reason) old rest = (ws : List Want) → run true table (us ++ ws) d old ≡ Stuck reason rest

-- whatever the register
abbrev pub Halts : Want → Option Reason → Row → Row → Type 0
Halts w r old rest = (d : ℕ) → Stays (w ∷ []) d r old rest

-- whatever the register, in a row of wants
abbrev pub Stay : List Want → Option Reason → Row → Row → Type 0
Stay us r old rest = (d : ℕ) → Stays us d r old rest

-- What is wanted is gone over, with a limit or without one.
abbrev pub Pass : Bool → List Want → Row → Row → Type 0
Pass l us old rest = (ws : List Want) (d : ℕ) → (e : ℕ) × (run l table (us ++ ws) d old ≡ run l table ws e rest)

-- ---- single tokens

-- nothing was taken, since the next token doesn't pass the test
abbrev pub Missing : (PlacedToken → Bool) → Failure JragCode → Row → Row → Type 0
Missing test failure.Memory old rest = Unit {0}
Missing test (failure.For code.Syntax) old rest = (rest ≡ old) × (next_is test old ≡ false)
Missing test (failure.For code.LeftOut) old rest = ⊥
Missing test (failure.For code.Nesting) old rest = ⊥

-- no "(" is next, or behind the one of `getChild` follows an `int`
abbrev pub NotOpened : List ℕ → Failure JragCode → Row → Row → Type 0
NotOpened name failure.Memory old rest = Unit {0}
NotOpened name (failure.For code.Syntax) old rest = (rest ≡ old) × (next_is (is_sign (codes "(")) old ≡ false)
NotOpened name (failure.For code.LeftOut) old rest = Sign (codes "(") old rest
    × (bytes_eq name (codes "getChild") && next_is (is_word (codes "int")) rest ≡ true)
NotOpened name (failure.For code.Nesting) old rest = ⊥

-- what stands between quotes is no text's spelling
abbrev pub NoText : List ℕ → Failure JragCode → Type 0
NoText text failure.Memory = Unit {0}
NoText text (failure.For code.Syntax) = is_quoted text ≡ false
NoText text (failure.For code.LeftOut) = ⊥
NoText text (failure.For code.Nesting) = ⊥

-- nothing was taken, since the next token, a number or a text, is none
abbrev pub NoLiteral : Failure JragCode → Row → Row → Type 0
NoLiteral failure.Memory old rest = Unit {0}
NoLiteral (failure.For code.Syntax) old rest = (rest ≡ old) × (next_is is_literal old ≡ false) × (next_is is_plain old ≡ false)
NoLiteral (failure.For code.LeftOut) old rest = ⊥
NoLiteral (failure.For code.Nesting) old rest = ⊥

-- no kind is next, or no name behind it
abbrev pub NoParam : Failure JragCode → Row → Row → Type 0
NoParam e old rest = Missing is_kind e old rest ⊎ ((k : KindWord) × (mid : Row) × KindOf k old mid × Missing is_name_token e mid rest)

-- a `-` was taken, and the number behind it is none
abbrev pub NoNegative : Failure JragCode → Row → Row → Type 0
NoNegative failure.Memory old rest = ⊥
NoNegative (failure.For code.Syntax) old rest = (at : Place) × (old ≡ sign (codes "-") at ∷ rest) × (next_is is_number rest ≡ true)
    × (next_is (is_number_within 2147483648) rest ≡ false)
NoNegative (failure.For code.LeftOut) old rest = ⊥
NoNegative (failure.For code.Nesting) old rest = ⊥

-- a `-` and a number were taken
abbrev pub TakesNegative : Row → Row → Type 0
TakesNegative old rest = (at : Place) × (digits : List ℕ) × (digits_at : Place) × (old ≡ sign (codes "-") at ∷ number digits digits_at ∷ rest)
    × (is_decimal_within 2147483648 digits ≡ true)

-- what is next is no literal, no parenthesis and no fold
abbrev pub IsOther : Row → Type 0
IsOther old = (next_is is_literal old ≡ false) × (next_is (is_sign (codes "(")) old ≡ false) × (next_is begins_fold old ≡ false)

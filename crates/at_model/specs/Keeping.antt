-- What is kept over lines, one after the other, and the work of these.
use Rattle.std.specs.Prelude.{◌≡◌, ℕ, min, List, [], ◌∷◌, sum, Option, Some, None}
use Rattle.at_model.specs.Paths.{Node}
use Rattle.at_model.specs.Run.{Instance}
use Rattle.at_model.specs.Rules.{Rules}
use Rattle.at_model.specs.Lines.{Line, Spells}
use Rattle.at_model.specs.Replies as code
use Rattle.at_model.specs.Machine.{State, Verdict, Refuses, after, verdict}
use Rattle.at_model.specs.Sparing.{KeptAfter, IsWork, SpreadsValues}

-- the bytes spell the line, or none
abbrev pub IsHeard : List ℕ → Option Line → Type 0
IsHeard bytes None = (l : Line) → Spells bytes l → ⊥
IsHeard bytes (Some l) = Spells bytes l

-- what becomes of it: what is no line is refused
abbrev pub heard : Rules → State → Option Line → Verdict
heard rules s None = Refuses code.Syntax
heard rules s (Some l) = verdict rules s l

-- the state in which the lines leave the machine
abbrev pub state_after : Rules → State → List (Option Line) → State
state_after rules s [] = s
state_after rules s (l ∷ ls) = state_after rules (after s (heard rules s l)) ls

-- values spread in each state to which the lines lead
abbrev pub AreSpreading : Rules → State → List (Option Line) → Type 0
AreSpreading rules s [] = SpreadsValues rules s.tree
AreSpreading rules s (l ∷ ls) = SpreadsValues rules s.tree × AreSpreading rules (after s (heard rules s l)) ls

-- what is kept after the lines, where those of `Kept` were kept before
abbrev pub KeptOver : Rules → State → List (Option Line) → (Instance Node → Type 0) → Instance Node → Type 0
KeptOver rules s [] Kept i = Kept i
KeptOver rules s (l ∷ ls) Kept i = KeptOver rules (after s (heard rules s l)) ls (KeptAfter rules s (heard rules s l) Kept) i

-- the work of each of the lines
abbrev pub AreWorks : Rules → State → List (Option Line) → (Instance Node → Type 0) → List ℕ → Type 0
AreWorks rules s [] Kept [] = Unit {0}
AreWorks rules s [] Kept (w ∷ ws) = ⊥
AreWorks rules s (l ∷ ls) Kept [] = ⊥
AreWorks rules s (l ∷ ls) Kept (w ∷ ws) = IsWork rules s (heard rules s l) Kept w
    × AreWorks rules (after s (heard rules s l)) ls (KeptAfter rules s (heard rules s l) Kept) ws

-- the greatest work that is counted: the greatest number of 64 bits
abbrev pub max_work : ℕ
max_work = 18446744073709551615

-- the work of all of them, which stays at the greatest
abbrev pub IsTotalWork : Rules → State → List (Option Line) → (Instance Node → Type 0) → ℕ → Type 0
IsTotalWork rules s ls Kept total = (ws : List ℕ) × AreWorks rules s ls Kept ws × (total ≡ min (sum ws) max_work)

-- no instance is kept
abbrev pub NothingKept : Instance Node → Type 0
NothingKept i = ⊥

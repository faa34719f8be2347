-- The machine of the readers of tokens: one symbol of look ahead, a stack of what is wanted, and one register, a number that
-- each want may read and set (the depth of what was read last, in at_jrag; 0 for readers without one); with a limit, or none.
use Rattle.std.specs.Prelude.{ℕ, List, [], ◌∷◌, ◌++◌, Bool, true, false, cond, not, ◌||◌, Option, Some, None}

-- why reading stops: the next symbol doesn't go on, a form begins there that the profile leaves out, or the symbol goes
-- on, but not within the limit for nesting
pub data Reason : Type 0 where
  Refused : Reason
  LeftOut : Reason
  TooDeep : Reason

-- ---- what each want does at the next symbol

-- What a want does at the next symbol: it takes it, within the limit or not, and wants more; it's there without it; it
-- can't go on; or a form begins there that the profile leaves out. The number is the register from then on.
pub data Answer (W : Type 0) : Type 0 where
  Takes : (within : Bool) → (more : List W) → (register : ℕ) → Answer W
  Skips : (register : ℕ) → Answer W
  Refuses : Answer W
  LeavesOut : Answer W

-- the answer, with more that is wanted behind what it takes
abbrev pub and_then : {W : Type 0} → Answer W → List W → Answer W
and_then (Takes within ws d) vs = Takes within (ws ++ vs) d
and_then (Skips d) vs = Refuses
and_then Refuses vs = Refuses
and_then LeavesOut vs = LeavesOut

abbrev pub is_skip : {W : Type 0} → Answer W → Bool
is_skip (Takes within ws d) = false
is_skip (Skips d) = true
is_skip Refuses = false
is_skip LeavesOut = false

-- the answer of each want, with the register, to the next symbol or to the end of the text
abbrev pub Table : Type 0 → Type 0 → Type 0
Table S W = W → ℕ → Option S → Answer W

-- ---- the machine. With no limit it takes what isn't within it, too.

-- what is wanted after a symbol, with the register
pub data Move (W : Type 0) : Type 0 where
  Goes : (more : List W) → (register : ℕ) → Move W
  Halts : Reason → Move W

abbrev pub answered : {W : Type 0} → (limited : Bool) → Answer W → List W → (ℕ → Move W) → Move W
answered limited (Takes within more d) ws skipped = cond (within || not limited) (Goes (more ++ ws) d) (Halts TooDeep)
answered limited (Skips d) ws skipped = skipped d
answered limited Refuses ws skipped = Halts Refused
answered limited LeavesOut ws skipped = Halts LeftOut

abbrev pub after : {S W : Type 0} → (limited : Bool) → Table S W → List W → ℕ → S → Move W
after limited table [] d s = Halts Refused
after limited table (w ∷ ws) d s = answered limited (table w d (Some s)) ws (λ e. after limited table ws e s)

abbrev pub ended : {W : Type 0} → Answer W → (ℕ → Bool) → Bool
ended (Takes within more d) skipped = false
ended (Skips d) skipped = skipped d
ended Refuses skipped = false
ended LeavesOut skipped = false

abbrev pub may_end : {S W : Type 0} → Table S W → List W → ℕ → Bool
may_end table [] d = true
may_end table (w ∷ ws) d = ended (table w d None) (λ e. may_end table ws e)

-- all of the symbols were taken, or these are left where reading stops
pub data Outcome (S : Type 0) : Type 0 where
  Whole : Outcome S
  Stuck : (reason : Reason) → (rest : List S) → Outcome S

unfoldable pub run : {S W : Type 0} → (limited : Bool) → Table S W → List W → (register : ℕ) → List S → Outcome S
run limited table ws d [] = cond (may_end table ws d) Whole (Stuck Refused [])
run limited table ws d (s ∷ ss) = elim (after limited table ws d s) [ Goes more e ↦ run limited table more e ss | Halts reason ↦ Stuck reason (s ∷ ss) ]

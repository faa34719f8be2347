-- Worked sessions: lines, each with its work.
use Rattle.std.specs.Prelude.{ℕ, List, [], ◌∷◌, map, Option}
use lib.Chars.{codes}
use Prim.Native.String.{String}
use Rattle.at_model.specs.Rules.{Rules}
use Rattle.at_model.specs.Lines.{Line}
use Rattle.at_model.specs.Machine.{State}
use Rattle.at_model.specs.Keeping.{IsHeard, AreWorks, NothingKept}

-- the bytes of a line, and its work
pub record Effort : Type 0 where
  pub line : List ℕ
  pub work : ℕ

-- this line has that work
infix 80 ◌⇢◌
abbrev pub ◌⇢◌ : String → ℕ → Effort
line ⇢ work = record { line = codes line; work = work }

-- these bytes spell the lines, one after the other, or none
abbrev pub AreHeard : List (List ℕ) → List (Option Line) → Type 0
AreHeard [] [] = Unit {0}
AreHeard [] (l ∷ ls) = ⊥
AreHeard (bytes ∷ rest) [] = ⊥
AreHeard (bytes ∷ rest) (l ∷ ls) = IsHeard bytes l × AreHeard rest ls

-- from the state on, in which nothing is kept, each of the lines has its work
pub record Works (rules : Rules) (s : State) (efforts : List Effort) : Type 0 where
  pub lines : List (Option Line)
  pub heard : AreHeard (map (λ e. e.line) efforts) lines
  pub works : AreWorks rules s lines NothingKept (map (λ e. e.work) efforts)

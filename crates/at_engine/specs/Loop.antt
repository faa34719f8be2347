-- Bytes that come in pieces of any size, and the lines that are served by them.
use Rattle.std.specs.Prelude.{◌≡◌, ℕ, ◌≤◌, ◌==◌, Bool, false, List, [], ◌∷◌, ◌++◌, length, take, filter, Option, None, Some, position}
use denote.Ref.{Bor}
use Rattle.at_model.specs.Lines.{pieces, is_filled}
use Rattle.at_model.specs.Rules.{Rules}
use Rattle.at_model.specs.Replies.{Reply}
use Rattle.at_model.specs.Machine.{State, Runs}

-- of a line that is too long only the front is kept, so much that it is still too long
unfoldable pub kept : List ℕ → List ℕ
kept line = take 65536 line

-- the bytes: whole lines, each before its newline, and the front of the next one
abbrev pub Splits : List ℕ → List (List ℕ) → List ℕ → Type 0
Splits bytes fulls front = pieces bytes ≡ fulls ++ front ∷ []

-- no newline stands in the bytes
abbrev pub IsOpen : List ℕ → Type 0
IsOpen front = Splits front [] front

-- the place of the first newline
abbrev pub newline_at : List ℕ → Option ℕ
newline_at bytes = position (λ b. b == 10) bytes

-- From old, with the front of a line before them, the bytes are answered so, so many turns follow each line, and they lead to new
-- and to the front of the next line.
pub record Progress (rules : Rules) (slice : ℕ) (old : State) (front bytes : List ℕ) (told : List (Bool × Reply)) (new : State) (rest : List ℕ) : Type 0 where
  pub fulls : List (List ℕ)
  pub splits : Splits (front ++ bytes) fulls rest
  pub open' : IsOpen rest
  pub runs : Runs rules slice old (filter is_filled fulls) told new
  pub few : length (filter is_filled fulls) ≤ length bytes

-- the first line of the bytes: it stands before a newline
abbrev pub IsNext : List ℕ → Bor (List ℕ) → Type 0
IsNext bytes line = IsOpen line.now × ((behind : List ℕ) × (bytes ≡ line.now ++ 10 ∷ behind))

-- whether a reply may wait for that of the next line: where one is known that isn't empty
abbrev pub lets_wait : Option (Bor (List ℕ)) → Bool
lets_wait None = false
lets_wait (Some line) = is_filled line.now

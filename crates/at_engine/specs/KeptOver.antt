-- What lines do to what is kept, and to the work: one line with its verdict, and lines one after the other in the words of `at_model`.
use Rattle.std.specs.Prelude.{◌≡◌, ◌↔◌, ℕ, ◌+◌, ◌-◌, ◌^◌, ◌<◌, min, false, List, length, Option}
use Rattle.std.specs.List.{AllByRecursion}
use Rattle.at_model.specs.Effects.{is_post}
use Rattle.at_model.specs.Paths.{Node}
use Rattle.at_model.specs.Run.{Instance}
use Rattle.at_model.specs.Rules.{Rules}
use Rattle.at_model.specs.Meaning.{Among, Distinct}
use Rattle.at_model.specs.Lines.{Line, Spells}
use Rattle.at_model.specs.Machine.{State, Verdict, Refuses, Tells, Leaves, Edits, Asks, Posts, Waits, verdict}
use Rattle.at_model.specs.Replies as code
use Rattle.at_model.specs.Sparing.{IsWorthKeeping}
use Rattle.at_model.specs.Keeping.{state_after, KeptOver, IsTotalWork, max_work}
use Rattle.at_model.specs.Working.{AreHeard}

-- What was kept stays, what comes beside it is worth it, and the work grows by the number of what comes, up to the greatest
-- number.
pub record Grows (IsWorth before after : Instance Node → Type 0) (work later : ℕ) : Type 0 where
  pub stays : (j : Instance Node) → before j → after j
  pub gained : List (Instance Node)
  pub distinct : Distinct gained
  pub exactly : (j : Instance Node) → Among j gained ↔ (after j × (¬ (before j)))
  pub worth : (j : Instance Node) → Among j gained → IsWorth j
  pub grows : work < 2 ^ 64 → later ≡ min (work + length gained) (2 ^ 64 - 1)

-- the verdict is a question for which the instance is worth keeping
abbrev pub IsWorthFor : Rules → State → Verdict → Instance Node → Type 0
IsWorthFor rules s (Refuses refusal) j = ⊥
IsWorthFor rules s (Tells shown) j = ⊥
IsWorthFor rules s (Leaves marks) j = ⊥
IsWorthFor rules s (Edits e t) j = ⊥
IsWorthFor rules s (Asks q) j = IsWorthKeeping rules s.tree q j
IsWorthFor rules s (Posts q) j = ⊥
IsWorthFor rules s (Waits number) j = ⊥

-- so is that of the line that the bytes spell
abbrev pub IsWorthIn : Rules → State → List ℕ → Instance Node → Type 0
IsWorthIn rules s bytes j = (l : Line) × Spells bytes l × IsWorthFor rules s (verdict rules s l) j

-- what becomes of bytes: what is no line is refused
pub data HasVerdict (rules : Rules) (s : State) (bytes : List ℕ) (v : Verdict) : Type 0 where
  obeys : (l : Line) → Spells bytes l → v ≡ verdict rules s l → HasVerdict rules s bytes v
  refuses : ((l : Line) → Spells bytes l → ⊥) → v ≡ Refuses code.Syntax → HasVerdict rules s bytes v

-- the bytes wait for the answer to an open question
abbrev pub AreWaiting : Rules → State → List ℕ → Type 0
AreWaiting rules s bytes = (number : ℕ) × HasVerdict rules s bytes (Waits number)

-- none of the lines posts a question
abbrev pub NonePosts : List (List ℕ) → Type 0
NonePosts served = AllByRecursion (λ line. (l : Line) → Spells line l → is_post l.command ≡ false) served

-- just what the lines leave and add is kept, and the work grows by theirs, up to the greatest number
pub record KeepsHeard (rules : Rules) (s : State) (lines : List (Option Line)) (before later : Instance Node → Type 0) (work more : ℕ)
    : Type 0 where
  pub kept : (j : Instance Node) → later j ↔ KeptOver rules s lines before j
  pub added : ℕ
  pub is_work : IsTotalWork rules s lines before added
  pub grows : work < 2 ^ 64 → more ≡ min (work + added) max_work

-- the bytes spell these lines, or none; just what they leave and add is kept, and the work grows by theirs
pub record KeepsLines (rules : Rules) (old : State) (served : List (List ℕ)) (new : State) (before later : Instance Node
    → Type 0) (work more : ℕ) : Type 0 where
  pub spelled : List (Option Line)
  pub are_heard : AreHeard served spelled
  pub state : new ≡ state_after rules old spelled
  pub keeps : KeepsHeard rules old spelled before later work more

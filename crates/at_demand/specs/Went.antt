-- How the state of questions came to be what it is: by questions, turns and edits.
use Rattle.std.specs.Prelude.{◌≡◌, ℕ, List, [], ◌∷◌, Option, None, Some, true}
use Rattle.at_model.specs.Run.{Instance, Location}
use Rattle.at_model.specs.Edits.{Edit}
use Rattle.at_store.specs.Shown.{Shown}
use Rattle.at_cache.specs.Kept.{LeavesUntouched}
use Rattle.at_cache.specs.Traced.{FlushesTraces, IsOutdated, SparesAtEdit, Trace}
use Rattle.at_demand.specs.InTurns.{CountsKept, PutsInTurns, WasPut}
use Rattle.at_demand.specs.State.{State, lets_go}
use Rattle.at_evaluate.specs.Made.{Makes}
use Rattle.at_evaluate.specs.Sparing.{Counts}
use Rattle.at_demand.specs.Touched.{Touches, TouchesThere}

-- A question was answered in one go, or values were kept again: just what had a reason was made, and the work counts what came to be kept.
pub record IsAsked (old new : State) : Type 0 where
  pub makes : Makes old.entries new.entries old.memories new.memories old.made new.made
  pub counts : Counts old.entries new.entries old.work new.work

-- A turn was given: what came to be kept it made, and the work counts that.
pub record IsTurned (old new : State) : Type 0 where
  pub puts : PutsInTurns old.memories new.memories
  pub makes : CountsKept old.entries new.entries old.made new.made
  pub counts : Counts old.entries new.entries old.work new.work

-- a turn that comes to that was given so
pub record TakesTurn (Turn : Type 0) (old new : State) : Type 0 where
  pub turned : Turn
  pub step : IsTurned old new

-- an edit that was made: of the tree of that store, with that bound on how many entries may be in memory
pub record EditMade : Type 0 where
  pub store : Shown
  pub edit : Edit
  pub most : Option ℕ

-- So it was made. What is kept was kept before, and stands for nothing that is touched. A trace went only if a location of the tree that was
-- looked at for it is touched; or, where an edit lets go of what can be kept again, whatever is touched. Nothing was made.
pub record IsEdited (x : EditMade) (old new : State) : Type 0 where
  pub leaves : LeavesUntouched (Touches x.store x.edit) old.entries new.entries
  pub traces : FlushesTraces (Touches x.store x.edit) old.memories new.memories
  pub spares : SparesAtEdit (TouchesThere x.store x.edit) (lets_go x.most old.memories) old.memories new.memories
  pub work : new.work ≡ old.work
  pub made : new.made ≡ old.made

-- By questions that were answered in one go, by turns, and by these edits, the last one first, the one state came to be the other: each step
-- goes on from the state that the one before left.
pub data Went (old : State) : List EditMade → State → Type 0 where
  begun : Went old [] old
  asked : (n o : State) (es : List EditMade) → Went old es n → IsAsked n o → Went old es o
  turned : (n o : State) (es : List EditMade) → Went old es n → IsTurned n o → Went old es o
  edited : (n o : State) (es : List EditMade) (e : EditMade) → Went old es n → IsEdited e n o → Went old (e ∷ es) o

-- Meanwhile an edit touched what was looked at for the trace of i, or a question or a turn put something that was used for it with another
-- value, or a turn put i itself; or an edit let go of it, where more was in memory than the bound allows, or much more than was kept.
pub data HasCause (old : State) (i : Instance ℕ) (t : Trace) : (es : List EditMade) (new : State) → Went old es new → Type 0 where
  touched : (n o : State) (es : List EditMade) (e : EditMade) (w : Went old es n) (h : IsEdited e n o)
      (l : Location ℕ) → t.reads l ≡ true → TouchesThere e.store e.edit l true → HasCause old i t (e ∷ es) o (edited n o es e w h)
  let_go : (n o : State) (es : List EditMade) (e : EditMade) (w : Went old es n) (h : IsEdited e n o)
      → n.memories.traced i ≡ Some t → lets_go e.most n.memories ≡ true → o.memories.traced i ≡ None
      → HasCause old i t (e ∷ es) o (edited n o es e w h)
  outdated : (n o : State) (es : List EditMade) (w : Went old es n) (x : IsAsked n o) → IsOutdated n.memories o.memories t
      → HasCause old i t es o (asked n o es w x)
  put_in_turns : (n o : State) (es : List EditMade) (w : Went old es n) (x : IsTurned n o) → WasPut i t n.memories o.memories x.puts
      → HasCause old i t es o (turned n o es w x)
  before_question : (n o : State) (es : List EditMade) (w : Went old es n) (x : IsAsked n o) → HasCause old i t es n w
      → HasCause old i t es o (asked n o es w x)
  before_turns : (n o : State) (es : List EditMade) (w : Went old es n) (x : IsTurned n o) → HasCause old i t es n w
      → HasCause old i t es o (turned n o es w x)
  before_edit : (n o : State) (es : List EditMade) (e : EditMade) (w : Went old es n) (h : IsEdited e n o)
      → HasCause old i t es n w → HasCause old i t (e ∷ es) o (edited n o es e w h)

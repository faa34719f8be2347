-- How what can be kept again came to be what it is, and how many values were made.
use Rattle.std.specs.Prelude.{◌≡◌, ℕ, List, [], ◌∷◌, Option}
use Rattle.at_model.specs.Edits.{Edit}
use Rattle.at_model.specs.Machine.{Verdict, Edits, after}
use Rattle.at_model.specs.Machine as machine
use Rattle.at_model.specs.Trees.{Tree}
use Rattle.at_store.specs.Shown.{Shown}
use Rattle.at_cache.specs.Kept.{Entries}
use Rattle.at_cache.specs.Traced.{Memories}
use Rattle.at_demand.specs.State.{State}
use Rattle.at_demand.specs.StateOf as questions
use Rattle.at_demand.specs.Went.{EditMade, Went}
use Rattle.at_engine.specs.Engines.{most_of, state_of}
use Rattle.at_engine.specs.declared.engine.Engine.{Engine}

-- how many values were made so far, up to the greatest number
abbrev pub made_of : {K : Type 0} → Engine K → ℕ
made_of e = e.demand.made

-- what its questions change: what is kept, what can be kept again, the work, and how many values were made
abbrev pub questions_of : {K : Type 0} → (entries : K → Entries) → (memories : K → Memories) → Engine K → State
questions_of entries memories e = questions.state_of entries memories e.demand

-- Nothing but questions, turns and these edits, the last one first, each of the tree of its store, led from what the questions of the old
-- engine had changed to what those of the new one have.
abbrev pub WentOn : {K : Type 0} → (entries : K → Entries) → (memories : K → Memories) → List EditMade → (old new : Engine K) → Type 0
WentOn entries memories es old new = Went (questions_of entries memories old) es (questions_of entries memories new)

-- none, or just the edit of a verdict that may be, of the tree that the store shows; that one was made
pub data AreEditsOf (May : Verdict → Type 0) (s : Shown) (most : Option ℕ) (old new : machine.State) : List EditMade → Type 0 where
  none_made : AreEditsOf May s most old new []
  one_made : (e : Edit) (t : Tree) → May (Edits e t) → new ≡ after old (Edits e t)
      → AreEditsOf May s most old new (record { store = s; edit = e; most = most } ∷ [])

-- so it went by no edit but that of a verdict that may be, of the tree of the old engine
abbrev pub WentFor : {K : Type 0} → (entries : K → Entries) → (memories : K → Memories) → (Verdict → Type 0) → (old new : Engine K) → Type 0
WentFor entries memories May old new =
    (es : List EditMade) × AreEditsOf May old.store (most_of old) (state_of old) (state_of new) es × WentOn entries memories es old new

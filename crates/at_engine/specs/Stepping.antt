-- What an engine has gone through: lines that were served, and turns that were given.
use Rattle.std.specs.Prelude.{ℕ, Bool, List, [], ◌++◌, Option}
use Rattle.at_cache.specs.Kept.{Entries}
use Rattle.at_cache.specs.Traced.{Memories}
use Rattle.at_demand.specs.Went.{EditMade}
use Rattle.at_engine.specs.Serving.{IsServed}
use Rattle.at_engine.specs.Turned.{Spends}
use Rattle.at_engine.specs.declared.engine.Engine.{Engine}
use Rattle.at_engine.specs.declared.engine.turning.Spent.{Spent}

-- Nothing but lines that were served and turns that were given lead from the one engine to the other, and each turn tried one
-- equation.
pub data GoesBy {K : Type 0} (entries : K → Entries) (memories : K → Memories) (old : Engine K) : Engine K → Type 0 where
  nowhere : GoesBy entries memories old old
  by_line : (mid new : Engine K) (line before after : List ℕ) (wants : Bool) → GoesBy entries memories old mid
      → IsServed entries memories line mid new before after wants → GoesBy entries memories old new
  by_turns : (mid new : Engine K) (limit : Option ℕ) (before after : List ℕ) (spent : Spent) → GoesBy entries memories old mid
      → Spends entries memories limit mid new before after spent → GoesBy entries memories old new

-- the edits that these lines made, the last one first
abbrev pub edits_in : {K : Type 0} → (entries : K → Entries) → (memories : K → Memories) → (old new : Engine K) → GoesBy entries memories old new
    → List EditMade
edits_in entries memories old _ nowhere = []
edits_in entries memories old _ (by_line mid new line before after wants by served) = served.went.0 ++ edits_in entries memories old mid by
edits_in entries memories old _ (by_turns mid new limit before after spent by spends) = edits_in entries memories old mid by

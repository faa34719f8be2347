-- What runs over bytes do to what is kept, and to the work.
use Rattle.std.specs.Prelude.{◌≡◌, ℕ, List, [], ◌++◌, filter, Option}
use Rattle.std.specs.Io.KnownBytes.{Consumes}
use Rattle.at_model.specs.Effects.{PostNothing}
use Rattle.at_model.specs.Lines.{is_filled, lines}
use Rattle.at_cache.specs.Kept.{Entries}
use Rattle.at_engine.specs.Engines.{rules_of, state_of}
use Rattle.at_engine.specs.Keeping.{kept_of, work_of}
use Rattle.at_engine.specs.KeptOver.{KeepsLines, NonePosts}
use Rattle.at_engine.specs.Loop.{IsOpen, Splits, kept}
use Rattle.at_engine.specs.declared.engine.Engine.{Engine}
use Rattle.at_engine.specs.declared.stream.desk.Desk.{Desk}

-- just what lines leave and add, one after the other, is kept
abbrev pub KeepsAll : {K : Type 0} → (entries : K → Entries) → List (List ℕ) → (old new : Engine K) → Type 0
KeepsAll entries served old new =
    KeepsLines (rules_of old) (state_of old) served (state_of new) (kept_of entries old) (kept_of entries new) (work_of old) (work_of new)

-- From the old engine, with the front of a line before them, the bytes lead to the new one and to the front of the next line,
-- and just what their lines leave and add is kept, where no question is open, and none of them posts one.
pub record KeepsBytes {K : Type 0} (entries : K → Entries) (front bytes : List ℕ) (old new : Engine K) (next : Desk) : Type 0 where
  pub fulls : List (List ℕ)
  pub rest : List ℕ
  pub splits : Splits (front ++ bytes) fulls rest
  pub open' : IsOpen rest
  pub line : next.line.items ≡ kept rest
  pub keeps : (state_of old).posted ≡ [] → NonePosts (filter is_filled fulls) → KeepsAll entries (filter is_filled fulls) old new
  pub none_open : (state_of old).posted ≡ [] → NonePosts (filter is_filled fulls) → (state_of new).posted ≡ []

-- so it is of the lines of the bytes that the reader gave, where no question is open and none of them posts one
pub record KeepsRun {K : Type 0} (entries : K → Entries) (old new : Engine K) (readable left : Option (List ℕ)) : Type 0 where
  pub input : List ℕ
  pub read : Consumes readable left input
  pub keeps : (state_of old).posted ≡ [] → PostNothing input → KeepsAll entries (lines input) old new

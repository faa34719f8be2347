-- What leaves memory: what isn't kept, and more beyond a bound.
use Rattle.std.specs.Prelude.{◌≡◌, ℕ, List, true, Some}
use Rattle.at_model.specs.Run.{Location}
use Rattle.at_cache.specs.declared.cut.Cut.{Cut}
use Rattle.at_index.specs.declared.edge.Edge.{Edge}
use Rattle.at_cache.specs.declared.standing.Standing.{Standing}
use Rattle.at_cache.specs.declared.table.Table.{Table}
use Rattle.at_cache.specs.Info.{Info, Memory, memory_of}
use Rattle.at_cache.specs.Recorded.{IsIndexed}
use Rattle.at_cache.specs.Standings.{held, kept_held, remembered, standing_of, untraced}
use Rattle.at_cache.specs.Kept.{Entries, LeavesKept}
use Rattle.at_cache.specs.Traced.{Memories, StayTraced}

-- all that is in memory is kept
abbrev pub AreHeld : List Standing → Memory → Type 0
AreHeld standings m = (k : ℕ) (e : Info) → m k ≡ Some e → (standing_of standings k).holds ≡ true

-- What is in the slot goes, if it isn't kept; what is kept stays, and nothing comes.
pub record ShedsAt (standings : List Standing) (slot : ℕ) (old new : Memory) : Type 0 where
  pub gone : (e : Info) → new slot ≡ Some e → (standing_of standings slot).holds ≡ true
  pub stays : (k : ℕ) → (standing_of standings k).holds ≡ true → new k ≡ old k
  pub from : (k : ℕ) (e : Info) → new k ≡ Some e → old k ≡ Some e

-- What is kept is there just as it was, and nothing else.
pub record Sheds (standings : List Standing) (old new : Memory) : Type 0 where
  pub stays : (k : ℕ) → (standing_of standings k).holds ≡ true → new k ≡ old k
  pub only : AreHeld standings new

-- no entry is traced, and each stands as it did but for that
abbrev pub LosesTraces : (old new : List Standing) → Type 0
LosesTraces old new = (k : ℕ) → standing_of new k ≡ untraced (standing_of old k)

-- what is kept of entries that stay in memory, with these edges of locations, after so many numbers
abbrev pub kept_cut : (lists : Location ℕ → List Edge) → Cut → (puts : ℕ) → Entries
kept_cut lists c puts = kept_held lists c.entries c.standings.items puts

-- and what is remembered
abbrev pub remembered_cut : (lists : Location ℕ → List Edge) → Cut → Memories
remembered_cut lists c = remembered lists c.entries c.standings.items

-- What is kept was kept just so, and each trace was there, over the same last values.
pub record Shrinks (lists : Location ℕ → List Edge) (old : Cut) (puts : ℕ) (later : Location ℕ → List Edge) (new : Cut) (again : ℕ)
    : Type 0 where
  pub kept : LeavesKept (kept_cut lists old puts) (kept_cut later new again)
  pub stay : StayTraced (remembered_cut lists old) (remembered_cut later new)

-- Of a table in which all is kept: what is left is, is found as before, and was kept just so.
pub record FoldsHeld (standings : List Standing) (puts : ℕ) (lists : Location ℕ → List Edge) (old : Table)
    (later : Location ℕ → List Edge) (new : Table)
    : Type 0 where
  pub there : AreHeld standings (memory_of new)
  pub indexed : IsIndexed later puts (held standings (memory_of new))
  pub kept : LeavesKept (kept_held lists old standings puts) (kept_held later new standings puts)

-- What a change leaves in the slab, and what of it stays.
use Rattle.std.specs.Prelude.{◌≡◌, ℕ, OnErr, Result}
use Rattle.slab.specs.Slab.{Slab}
use Rattle.at_store.specs.Planting.{IsAsBefore}
use Rattle.at_store.specs.Reserving.{KeepsRoom, slots_in}
use Rattle.at_store.specs.View.{MarksNoMore, leaves_in, memory_of, stored_of}
use Rattle.at_store.specs.declared.entry.Entry.{Entry}

-- that is written, and the same nodes are marked
pub record Writes (Done : Type 0) (before later : Slab Entry) : Type 0 where
  pub written : Done
  pub marks : (k : ℕ) → leaves_in later k ≡ leaves_in before k

-- and where there was room there still is
pub record WritesInRoom (Done : Type 0) (before later : Slab Entry) : Type 0 where
  pub written : Done
  pub marks : (k : ℕ) → leaves_in later k ≡ leaves_in before k
  pub room : KeepsRoom before later

-- and no component is written
pub record WritesBeside (Done : Type 0) (before later : Slab Entry) : Type 0 where
  pub written : Done
  pub marks : (k : ℕ) → leaves_in later k ≡ leaves_in before k
  pub slots : (k : ℕ) → slots_in later k ≡ slots_in before k

-- that is written, and no node is marked that wasn't
pub record Takes (Done : Type 0) (before later : Slab Entry) : Type 0 where
  pub written : Done
  pub marks : MarksNoMore before later

-- there is room, and nothing else has changed
pub record Reserves (Room : Type 0) (before later : Slab Entry) : Type 0 where
  pub stays : (k : ℕ) → memory_of later k ≡ memory_of before k
  pub marks : (k : ℕ) → leaves_in later k ≡ leaves_in before k
  pub room : Room

-- that was pushed, or all is as before, for want of memory; no node is marked that wasn't
pub record Pushes (Done : Type 0) {A E : Type 0} (result : Result A E) (before later : Slab Entry) : Type 0 where
  pub pushed : Done
  pub kept : OnErr result (IsAsBefore (stored_of before) (stored_of later))
  pub marks : MarksNoMore before later

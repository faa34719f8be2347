-- What is kept again with no evaluation.
use Rattle.std.specs.Prelude.{◌≡◌, ◌<◌, ◌+◌, ◌-◌, ◌^◌, ℕ, List, Bool, true, IsSome, Some, min}
use Rattle.at_model.specs.Run.{Instance, Location}
use Rattle.at_index.specs.declared.edge.Edge.{Edge}
use Rattle.at_cache.specs.declared.settling.Counts.{Counts}
use Rattle.at_cache.specs.declared.standing.Standing.{Standing}
use Rattle.at_cache.specs.declared.table.Table.{Table}
use Rattle.at_cache.specs.Info.{Info, memory_of}
use Rattle.at_cache.specs.Kept.{Entries, value_at}
use Rattle.at_cache.specs.Recorded.{IsIndexed}
use Rattle.at_cache.specs.Standings.{AreValued, IsTied, held, instances_in, kept_held, remembered, standing_of}
use Rattle.at_cache.specs.Traced.{AreAllKept, IsNext, Memories, Settled, Trace}

-- from wherever i comes next, so many entries came as the work has grown by
abbrev pub Settles : Memories → Instance ℕ → (old new : Entries) → (work done : ℕ) → Type 0
Settles m i old new work done = (q : Instance ℕ) → IsNext m old q i
    → (n : ℕ) × Settled m q n old new × (done ≡ min (work + n) (2 ^ 64 - 1))

-- what is kept is found, and so is what can be kept again
pub record IsWhole (lists : Location ℕ → List Edge) (t : Table) (standings : List Standing) (counts : Counts)
    : Type 0 where
  pub indexed : IsIndexed lists counts.puts (held standings (memory_of t))
  pub tied : IsTied lists counts.puts standings (memory_of t)
  pub valued : AreValued standings (memory_of t)
  pub few : counts.work < 2 ^ 64

-- these traces are those of the standings
abbrev pub AreTraces : (lists : Location ℕ → List Edge) → Table → List Standing → Memories → Type 0
AreTraces lists t standings m = (i : Instance ℕ) → m.traced i ≡ (remembered lists t standings).traced i

-- all is whole, what was traced is, and no other entry, and wherever the instance came next, so many entries came as
-- the work has grown by
pub record GoesOn (lists : Location ℕ → List Edge) (t : Table) (i : Instance ℕ) (before : List Standing) (old : Counts)
    (after : List Standing) (new : Counts)
    : Type 0 where
  pub whole : IsWhole lists t after new
  pub traced : (k : ℕ) → (standing_of after k).traced ≡ (standing_of before k).traced
  pub settles : (m : Memories) → AreTraces lists t before m
      → Settles m i (kept_held lists t before old.puts) (kept_held lists t after new.puts) old.work new.work

-- The same of the entry in the slot; where the result is `true`, its value is kept.
abbrev pub HasSettled : (lists : Location ℕ → List Edge) → Table → (slot : ℕ)
    → (before : List Standing) (old : Counts) (result : Bool)
    (after : List Standing) (new : Counts) → Type 0
HasSettled lists t slot before old result after new = (e : Info) → memory_of t slot ≡ Some e
    → GoesOn lists t e.instance before old after new × (result ≡ true
    → IsSome (value_at (kept_held lists t after new.puts e.instance)))

-- The same of one that used those in the slots; where the result is `true`, their values are kept.
abbrev pub HasSettledAll : (lists : Location ℕ → List Edge) → Table → (slots : List ℕ)
    → (before : List Standing) (old : Counts) (result : Bool)
    (after : List Standing) (new : Counts) → Type 0
HasSettledAll lists t slots before old result after new = (i : Instance ℕ) (trace : Trace)
    → (remembered lists t before).traced i ≡ Some trace
    → trace.uses ≡ instances_in (memory_of t) slots
    → GoesOn lists t i before old after new × (result ≡ true → AreAllKept (kept_held lists t after new.puts)
    (instances_in (memory_of t) slots))

-- the entry in the slot is traced, and all that it used is kept
abbrev pub CanKeep : (lists : Location ℕ → List Edge) → Table → (slot : ℕ) → List Standing → Counts → Type 0
CanKeep lists t slot standings counts = ((standing_of standings slot).traced ≡ true)
    × ((e : Info) → memory_of t slot ≡ Some e → AreAllKept (kept_held lists t standings counts.puts)
    (instances_in (memory_of t) e.links))

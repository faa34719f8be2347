-- Memories that differ in whether turns keep again what can be.
use Rattle.at_cache.proofs.Common.{ℕ, Bool, Err, Ok, OnErr, Result, inl, inr, Instance, Entries, IsNext, IsOutdated, IsSpared, Memories, Settled, SparesOthers, StayTraced, Trace, below, itself, nothing, one_more}

-- the same, and turns keep it again, if so
abbrev pub with_turns : Bool → Memories → Memories
with_turns b m = record m { in_turns = b }

module _ (b : Bool) (m : Memories) where
  pub next_in_turns : (entries : Entries) (q i : Instance ℕ) → IsNext m entries q i → IsNext (with_turns b m) entries q i
  next_in_turns entries q _ itself = itself
  next_in_turns entries q _ (below j u t front back n traced uses kept) = below j u t front back (next_in_turns entries q j n) traced uses kept

  pub settled_in_turns : (q : Instance ℕ) (n : ℕ) (old new : Entries) → Settled m q n old new → Settled (with_turns b m) q n old new
  settled_in_turns q _ old _ (nothing _) = nothing old
  settled_in_turns q _ old new (one_more n _ mid _ i t front next traced none kept puts) =
      one_more n old mid new i t (settled_in_turns q n old mid front) (next_in_turns mid q i next) traced none kept puts

-- what the other one spares
module _ (b c : Bool) (old new : Memories) where
  outdated_in_turns : (t : Trace) → IsOutdated old new t → IsOutdated (with_turns b old) (with_turns c new) t
  outdated_in_turns t h = record { one = h.one; used = h.used; another = h.another }

  spared_in_turns : (i : Instance ℕ) (t : Trace) → IsSpared old new i t → IsSpared (with_turns b old) (with_turns c new) i t
  spared_in_turns i t (inl there) = inl there
  spared_in_turns i t (inr gone) = inr (outdated_in_turns t gone)

  pub fails_in_turns : {E : Type 0} (r : Result (Unit {0}) E) → OnErr r (StayTraced old new)
      → OnErr r (StayTraced (with_turns b old) (with_turns c new))
  fails_in_turns (Ok p) h = tt
  fails_in_turns (Err e) h = λ i t traced.
      let s = h i t traced in record { traced = s.traced; value = s.value; uses = s.uses }

  pub spares_in_turns : (i : Instance ℕ) (after : Entries) → SparesOthers i after old new → SparesOthers i after (with_turns b old) (with_turns c new)
  spares_in_turns i after h = record { spares = λ j t differs was. spared_in_turns j t (h.spares j t differs was); last = h.last }

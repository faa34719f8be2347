use Rattle.at_cache.proofs.Common.{◌≡◌, ℕ, None, take, lookup, Instance, same_instance, memory_of, AreListed, Uses, users_at, alive_in}
use Rattle.at_cache.proofs.using.add_users.Given as goal

abbrev pub invariant-loop-slot : goal.invariant-loop-slot
invariant-loop-slot l = record {
  uses : Uses (alive_in l.initial.cut) l.edge (take l.slot-index l.slots) (memory_of l.initial.cut.entries) (memory_of l.cut.entries);
  listed : AreListed l.edge (take l.slot-index l.slots) (users_at (memory_of l.cut.entries));
  standings : l.cut.standings.items ≡ l.initial.cut.standings.items;
  key : l.cut.entries.places.vacant_key ≡ l.initial.cut.entries.places.vacant_key;
  absent : (i : Instance ℕ) → lookup (same_instance i) l.initial.cut.entries.entries.entries ≡ None
      → lookup (same_instance i) l.cut.entries.entries.entries ≡ None;
}

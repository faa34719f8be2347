use Rattle.at_evict.proofs.Common.{◌≡◌, length, take, Added, memory_of, edges_along}
use Rattle.at_evict.proofs.refolding.Refolding.add_edges_to.Given as goal

abbrev pub invariant-loop-number : goal.invariant-loop-number
invariant-loop-number l = record {
  slots : l.room.slots ≡ l.initial.room.slots;
  len : length l.room.slots.items ≡ length l.initial.room.slots.items;
  added : Added (memory_of l.self.entries.now) (edges_along l.initial.rows.items) (take l.number l.initial.room.slots.items) (edges_along l.rows.items);
}

use Rattle.at_index.proofs.Common.{◌≤◌, ◌^◌, length, map, loc_view, AreNoted, own_edges, edges_at, Reads, ListsBut, Stays}
use Rattle.at_index.proofs.tells.Adding.add_each.Given as goal

abbrev pub invariant-loop-location : goal.invariant-loop-location
invariant-loop-location g l = record {
  reads : Reads (g.T.Tells.tells l.self.teller.now) l.self.edge (map loc_view l.locations) (own_edges l.initial.desks.entries l.initial.readers.items)
      (own_edges l.desks.entries l.readers.items);
  noted : AreNoted (edges_at l.initial.readers.items) l.initial.index_read.items → AreNoted (edges_at l.readers.items) l.index_read.items;
  stay : Stays l.self.edge (own_edges l.initial.desks.entries l.initial.readers.items)
      (own_edges l.desks.entries l.readers.items);
  listed : ListsBut l.self.edge (map loc_view l.locations) (map loc_view l.rest)
      (own_edges l.desks.entries l.readers.items);
  short : length l.initial.readers.items ≤ 2 ^ 32 → length l.readers.items ≤ 2 ^ 32;
}

abbrev pub decreases-loop-location : goal.decreases-loop-location
decreases-loop-location g l = length (map loc_view l.rest)

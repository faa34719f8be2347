use Rattle.at_index.proofs.Common.{map, loc_view, AreNoted, edges_to, Reads, ListsBut}
use Rattle.at_index.proofs.tells.Adding.add_fold.Given as goal

abbrev pub invariant-loop : goal.invariant-loop
invariant-loop g l = record {
  reads : Reads (g.T.Tells.tells l.self.teller.now) l.self.edge (map loc_view l.locations) (edges_to l.fn.readers) (edges_to l.readers);
  noted : AreNoted (edges_to l.fn.readers) l.fn.index_read.items → AreNoted (edges_to l.readers) l.index_read.items;
  listed : ListsBut l.self.edge (map loc_view l.locations) (map loc_view l.rest) (edges_to l.readers);
}

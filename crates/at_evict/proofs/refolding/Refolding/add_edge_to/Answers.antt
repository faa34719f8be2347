use Rattle.at_evict.proofs.Common.{ap, option_map, refl, sym, info, memory_of, current}
use Rattle.at_evict.proofs.of_folding.Parting.{added_same}
use Rattle.at_evict.proofs.refolding.Refolding.add_edge_to.Goals as goal

pub returns-in-Some-clause-added : goal.returns-in-Some-clause-added
returns-in-Some-clause-added c kept slots a =
    let there = ap (option_map info) (sym c.in-Some.ensures) in
    c.add_edge.ensures.added (memory_of c.args.self.now.entries.now) kept slots
    (current (memory_of c.args.self.now.entries.now) (record { slot = c.args.slot; stamp = c.in-Some.entry.now.stamp }) _ there refl) a

pub returns-in-None-clause-added : goal.returns-in-None-clause-added
returns-in-None-clause-added c kept slots a = added_same _ kept slots c.args.slot _ (ap (option_map info) (sym c.in-None.ensures)) a

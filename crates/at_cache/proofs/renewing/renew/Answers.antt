use Rattle.at_cache.proofs.Common.{IsSome, option_map, subst, sym, value_view, memory_of}
use Rattle.at_cache.proofs.of_cut.Losing.{renewed_in}
use Rattle.at_cache.proofs.renewing.renew.Goals as goal

pub compare-requires-clause-there : goal.compare-requires-clause-there
compare-requires-clause-there c = rw c.into_put-slot.ensures c.requires.there

pub compare-requires-clause-hidden : goal.compare-requires-clause-hidden
compare-requires-clause-hidden c = rw c.into_put-slot.ensures c.requires.hidden

pub renew-requires : goal.renew-requires
renew-requires c = record { there = subst IsSome (sym (c.compare.ensures.entries _)) (rw c.into_put-slot.ensures c.requires.there) }

pub returns : goal.returns
returns c = renewed_in c.args.entry.slot c.args.inst.now (option_map value_view c.args.entry.value) c.args.entry.links.items c.args.entry.stamp c.args.cut.now.standings.items c.compare.new.cut.standings.items
    (memory_of c.args.cut.now.entries) (memory_of c.compare.new.cut.entries) (memory_of c.renew.new.self) c.requires.there c.requires.idle
    (rw c.into_put-slot.ensures at c.compare.ensures) (rw c.into_put-slot.ensures at c.renew.ensures.written)

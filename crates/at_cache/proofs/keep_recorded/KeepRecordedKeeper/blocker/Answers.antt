use Rattle.at_cache.proofs.Common.{subst, sym, LeadsTo, edges_to}
use Rattle.at_cache.proofs.of_cut.InTheWay.{next_from}
use Rattle.at_cache.proofs.keep_recorded.KeepRecordedKeeper.blocker.Goals as goal

pub returns : goal.returns
returns c =
    let k = c.args.self.now in
    let has = c.in_ok-asked.ensures in
    let leads = rw c.as_slice.ensures.value at c.blocking-slot.ensures in
    next_from k.cut.entries k.cut.standings.items (edges_to k.readers) k.puts c.args.inst.now
    has.entry c.blocking-slot.result _
    k.tied k.valued (sym has.found)
    (subst (λ s. LeadsTo k.cut.entries k.cut.standings.items s c.blocking-slot.result) (sym has.there) leads) c.in_ok-instance.ensures

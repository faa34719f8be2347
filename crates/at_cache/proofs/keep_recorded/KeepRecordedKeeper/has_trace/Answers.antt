use Rattle.at_cache.proofs.Common.{edges_to, remembered}
use Rattle.at_cache.proofs.of_cut.Spared.{untraced_sure}
use Rattle.at_cache.proofs.keep_recorded.KeepRecordedKeeper.has_trace.Goals as goal

pub returns-then-not-self : goal.returns-then-not-self
returns-then-not-self c =
    let k = c.args.self.now in
    λ off absent. untraced_sure _ (remembered (edges_to k.readers) k.cut.entries k.cut.standings.items)
    (k.sure c.if-not-self.true) c.args.inst.now absent

pub returns : goal.returns
returns c = λ off absent. c.has_trace.ensures (edges_to c.args.self.now.readers) off

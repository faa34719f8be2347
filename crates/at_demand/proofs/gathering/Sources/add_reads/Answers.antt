use Rattle.std.proofs.Common.{◌++◌, ◌∙◌, ap}
use Rattle.std.proofs.lemmas.List.{take_all}
use Rattle.at_demand.proofs.gathering.Sources.add_reads.Goals as goal

pub returns-clause-reads : goal.returns-clause-reads
returns-clause-reads c = c.loop-loc.invariant.reads ∙ ap (λ l. c.args.self.now.reads.items ++ l) (take_all c.loop-loc.loc-index c.args.reads.now c.loop-loc-test.false)

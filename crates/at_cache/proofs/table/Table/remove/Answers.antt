use Rattle.at_cache.proofs.Common.{get, at}
use Rattle.at_cache.proofs.Came.{come_on}
use Rattle.at_cache.proofs.Changing.{value_taken}
use Rattle.at_cache.proofs.table.Table.remove.Goals as goal

pub returns-clause-value : goal.returns-clause-value
returns-clause-value c = value_taken (at c.args.self.now.entries.entries (get c.args.self.now.places) c.args.slot) c.take.result (c.take.ensures.removed c.args.self.now.placed)

pub invariant_of-self : goal.invariant_of-self
invariant_of-self c = record { placed = c.take.ensures.placed c.args.self.now.placed; come = come_on _ _ _ c.take.ensures.absent c.args.self.now.come }

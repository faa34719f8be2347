use Rattle.at_cache.proofs.Common.{true}
use Rattle.at_cache.proofs.of_cut.InTurns.{settled_in_turns}
use Rattle.at_cache.proofs.keep_in_turns.KeepInTurnsKeeper.settle.Goals as goal

pub returns-clause-settled : goal.returns-clause-settled
returns-clause-settled g c = let (n, settled, counts) = c.settle.ensures.settled in (n, settled_in_turns true _ c.args.inst.now n _ _ settled, counts)

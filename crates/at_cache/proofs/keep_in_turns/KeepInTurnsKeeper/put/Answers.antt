use Rattle.at_cache.proofs.Common.{true}
use Rattle.at_cache.proofs.of_cut.InTurns.{fails_in_turns, spares_in_turns}
use Rattle.at_cache.proofs.keep_in_turns.KeepInTurnsKeeper.put.Goals as goal

pub returns-clause-spares : goal.returns-clause-spares
returns-clause-spares g c = spares_in_turns true true _ _ c.args.inst _ c.put.ensures.spares

pub returns-clause-fails : goal.returns-clause-fails
returns-clause-fails g c = fails_in_turns true true _ _ c.put.result c.put.ensures.fails

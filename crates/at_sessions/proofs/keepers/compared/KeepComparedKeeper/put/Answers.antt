use Rattle.at_cache.proofs.of_cut.Goes.{stay_traced}
use Rattle.at_cache.proofs.of_cut.LeftHeld.{on_err}
use Rattle.at_cache.proofs.of_cut.Spared.{alike_itself, spares_alike}
use Rattle.at_sessions.proofs.keepers.compared.KeepComparedKeeper.put.Goals as goal

pub returns-then-takes_none-clause-spares : goal.returns-then-takes_none-clause-spares
returns-then-takes_none-clause-spares c = spares_alike c.args.inst _ _ _ (alike_itself _)

pub returns-in_err-entry-clause-spares : goal.returns-in_err-entry-clause-spares
returns-in_err-entry-clause-spares c = spares_alike c.args.inst _ _ _ (alike_itself _)

pub returns-then-takes_none-clause-fails : goal.returns-then-takes_none-clause-fails
returns-then-takes_none-clause-fails c = stay_traced _

pub returns-in_err-entry-clause-fails : goal.returns-in_err-entry-clause-fails
returns-in_err-entry-clause-fails c = on_err _ (stay_traced _)

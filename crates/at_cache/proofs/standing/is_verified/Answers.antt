use Rattle.at_cache.proofs.of_cut.Goes.{is_on}
use Rattle.at_cache.proofs.standing.is_verified.Goals as goal

pub returns-clause-holds : goal.returns-clause-holds
returns-clause-holds c on = is_on _ c.if-not-standing.false

use Rattle.at_demand.proofs.of_searches.ReasonedTurns.{came_reason, demanded_reason}
use Rattle.at_demand.proofs.turning_laws.what_comes_has_a_reason.Goals as goal

pub returns-clause-turned : goal.returns-clause-turned
returns-clause-turned c look forms first q i circle u on r j v may h = came_reason look forms first q i circle u on r j v may h

pub returns-clause-ahead : goal.returns-clause-ahead
returns-clause-ahead c look forms first q i circle u on r j v d h = demanded_reason look forms first q i circle u on r j v d h

use Rattle.at_cache.proofs.Common.{LeadsTo}
use Rattle.at_cache.proofs.blocking.blocking.Given as goal

abbrev pub invariant-loop : goal.invariant-loop
invariant-loop l = LeadsTo l.entries l.standings l.slot l.last

use Rattle.at_index.proofs.Common.{length, map, loc_view, Follows}
use Rattle.at_index.proofs.stretch.follow.Given as goal

abbrev pub invariant-loop-location : goal.invariant-loop-location
invariant-loop-location l = Follows l.seats l.run l.behind l.last (map loc_view l.locations) (map loc_view l.rest)

abbrev pub decreases-loop-location : goal.decreases-loop-location
decreases-loop-location l = length l.rest

use Rattle.at_index.proofs.Common.{◌∷◌, length, map, loc_view, IsFirst}
use Rattle.at_index.proofs.facets.first_facet.Given as goal

abbrev pub invariant-loop-next : goal.invariant-loop-next
invariant-loop-next l = IsFirst (loc_view l.fn.location ∷ map loc_view l.fn.others) l.node l.facet (map loc_view l.rest)

abbrev pub decreases-loop-next : goal.decreases-loop-next
decreases-loop-next l = length l.rest

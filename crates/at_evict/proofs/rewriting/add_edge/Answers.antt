use Rattle.at_evict.proofs.Common.{Contains, List, subst, Row, edges_along, is_current}
use Rattle.at_evict.proofs.of_folding.Parting.{added_had, added_more}
use Rattle.at_evict.proofs.rewriting.add_edge.Goals as goal

pub returns-then-has-clause-added : goal.returns-then-has-clause-added
returns-then-has-clause-added c m kept slots is a =
    added_had _ kept slots c.args.edge _ is
    (subst (λ (rs : List Row). Contains (edges_along rs) c.args.edge) c.as_slice.ensures (c.has.ensures c.if-has.true)) a

pub returns-clause-added : goal.returns-clause-added
returns-clause-added c m kept slots is a =
    added_more _ kept slots c.args.edge _ _ is (c.push_edge.ensures.lists (is_current m)) c.in_ok-push_edge.ensures.has a

use Rattle.at_evict.proofs.Common.{[], ◌++◌, ◌∷◌, OnOk, subst, Added, into_of, is_told, memory_of, edges_along}
use Rattle.at_evict.proofs.refolding.Refolding.add_edge_into.Goals as goal

pub returns-in-Some-clause-added : goal.returns-in-Some-clause-added
returns-in-Some-clause-added c kept slots a =
    let f = c.args.self.now in
    let m = memory_of f.entries.now in
    let (same, there) = c.in-Some.ensures (is_told f) (into_of f) f.alone in
    subst (λ s. OnOk c.add_edge.result (Added m kept (slots ++ s ∷ []) (edges_along c.add_edge.new.rows.items))) same
    (c.add_edge.ensures.added m kept slots there a)

pub returns-in-None-clause-added : goal.returns-in-None-clause-added
returns-in-None-clause-added c kept slots a = c.add_edge_to.ensures.added kept slots a

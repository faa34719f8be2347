use Rattle.at_index.proofs.Common.{◌≡◌, List, ◌∷◌, ◌∙◌, map, subst, sym, Loc, loc_view, node_at, same_location, IsFirst, stands_for}
use Rattle.at_index.proofs.Locations.{first_alone, first_wider, not_other}
use Rattle.at_index.proofs.facets.first_facet.Goals as goal

pub loop-next-init : goal.loop-next-init
loop-next-init c =
    first_alone c.node-node.result (loc_view c.args.location) (map loc_view c.args.others.now) c.in_ok-facet.facet
    (rw c.node-node.ensures c.in_ok-facet.ensures)

pub loop-next-preserved : goal.loop-next-preserved
loop-next-preserved c =
    let n = c.node-node.result in
    let all = loc_view c.args.location ∷ map loc_view c.args.others.now in
    let next = c.in-Some.next.now in
    let left = c.in-Some.left.now in
    let at : node_at (loc_view next) ≡ n = sym c.node.ensures ∙ not_other c.node.result n c.if-ne.ensures in
    first_wider n all c.loop-next.facet c.in-Ok.alone c.in-Some-with.wider (loc_view next) (map loc_view left)
    (λ k. subst (λ m. stands_for m c.in-Ok.alone k ≡ same_location k (loc_view next)) at (c.in-Ok.ensures k))
    (λ k. c.in-Some-with.ensures.both n k)
    c.in-Some-with.ensures.near
    (subst (λ (xs : List Loc). IsFirst all n c.loop-next.facet (map loc_view xs)) c.in-Some.ensures.cases.0 c.loop-next.invariant)

use Rattle.at_cache.proofs.Common.{◌∙◌, ◌++◌, ◌∷◌, [], ap, append-nil, append_assoc, refl, subst, sym, GoesOver, edges_of}
use Rattle.at_cache.proofs.of_cut.Passing.{over_none, over_then}
use Rattle.at_cache.proofs.forgetting.doom_row.Goals as goal

pub loop-edge-init : goal.loop-edge-init
loop-edge-init c = ([], refl, over_none c.args.loss c.args.first c.args.cut.now)

pub loop-edge-preserved : goal.loop-edge-preserved
loop-edge-preserved c =
    let (done, is, over) = c.loop-edge.invariant in
    let x = c.in-Some.edge in (
      done ++ x ∷ [],
      is ∙ ap (λ es. done ++ es) c.in-Some.ensures ∙ sym (append_assoc done (x ∷ []) (edges_of c.in-Some.others)),
      over_then c.args.loss over c.doom-first.ensures,
    )

pub returns : goal.returns
returns c =
    let (done, is, over) = c.loop-edge.invariant in
    subst (λ es. GoesOver c.args.loss es c.args.first c.args.cut.now c.loop-edge.first c.loop-edge.cut)
    (sym (append-nil done) ∙ ap (λ es. done ++ es) (sym c.in_default.ensures) ∙ sym is) over

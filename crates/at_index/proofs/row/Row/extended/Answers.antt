use Rattle.at_index.proofs.Common.{◌≡◌, ◌++◌, ◌∷◌, [], arith, refl, subst, sym, Edge, edges_from}
use Rattle.at_index.proofs.RowEdges.{goes_on}
use Rattle.at_index.proofs.row.Row.extended.Goals as goal

pub returns : goal.returns
returns c =
    let was = c.args.self.now.step in
    let n = c.args.self.now.count in
    subst (λ (f : Edge). edges_from f c.in_ok-step.step 0 c.in_ok-count.count ≡ edges_from f was 0 n ++ c.args.edge ∷ []) c.first.ensures
    (goes_on c.first.result c.args.edge c.in_ok-step.step was n c.in_ok-count.count c.way.result (omega arith) (omega arith)
    c.in_ok-count.ensures.1 c.way.ensures (c.if-not-lies.ensures.slot refl) (c.if-not-lies.ensures.stamp refl)
    (subst (λ (f : Edge). edges_from f c.in_ok-step.step 0 n ≡ edges_from f was 0 n) (sym c.first.ensures) c.in_ok-step.ensures))

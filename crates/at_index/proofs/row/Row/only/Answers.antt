use Rattle.at_index.proofs.Common.{[], ◌∷◌, ◌∙◌, ap, arith, sym, edges_from, first_of}
use Rattle.at_index.proofs.RowEdges.{alone}
use Rattle.at_index.proofs.row.Row.only.Goals as goal

pub returns-then-self-eq1 : goal.returns-then-self-eq1
returns-then-self-eq1 c =
    ap (λ n. edges_from (first_of c.args.self) c.args.self.step 0 n) c.if-self-eq1.true ∙ alone (first_of c.args.self) c.args.self.step (omega arith) (omega arith)
    ∙ ap (λ x. x ∷ []) (sym c.first.ensures)

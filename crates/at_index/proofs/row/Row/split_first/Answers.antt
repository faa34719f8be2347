use Rattle.at_index.proofs.Common.{◌∷◌, ◌∙◌, ◌-◌, ap, arith, sym, edges_from, first_of}
use Rattle.at_index.proofs.RowEdges.{first_and_rest, none_of}
use Rattle.at_index.proofs.row.Row.split_first.Goals as goal

pub returns-then-self-eq0 : goal.returns-then-self-eq0
returns-then-self-eq0 c = none_of (first_of c.args.self) c.args.self.step c.args.self.count c.if-self-eq0.true

pub returns : goal.returns
returns c =
    first_and_rest (first_of c.args.self) c.second-second.result c.args.self.step c.args.self.count (omega arith) (omega arith) c.second-second.ensures c.if-self-eq0.false
    ∙ ap (λ x. x ∷ edges_from c.second-second.result c.args.self.step 0 (c.args.self.count - 1)) (sym c.first.ensures)

use Rattle.at_index.proofs.Common.{ap, sym, nat_eq, first_of}
use Rattle.at_index.proofs.RowEdges.{many}
use Rattle.at_index.proofs.row.Row.is_empty.Goals as goal

pub returns : goal.returns
returns c = ap (λ n. nat_eq n 0) (sym (many (first_of c.args.self.now) c.args.self.now.step 0 c.args.self.now.count))

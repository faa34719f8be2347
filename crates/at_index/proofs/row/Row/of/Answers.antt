use Rattle.at_index.proofs.Common.{arith}
use Rattle.at_index.proofs.RowEdges.{alone}
use Rattle.at_index.proofs.row.Row.of.Goals as goal

pub returns : goal.returns
returns c = alone c.args.edge 0 (omega arith) (omega arith)

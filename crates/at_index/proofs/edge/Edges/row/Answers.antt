use Rattle.at_index.proofs.edge.Edges.row.Goals as goal

pub returns-in-Few : goal.returns-in-Few
returns-in-Few c = rw c.in-Few.is c.few.ensures

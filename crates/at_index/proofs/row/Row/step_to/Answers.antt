use Rattle.at_index.proofs.Common.{first_of}
use Rattle.at_index.proofs.RowEdges.{any_step}
use Rattle.at_index.proofs.row.Row.step_to.Goals as goal

pub returns : goal.returns
returns c = any_step (first_of c.args.self.now) _ c.args.self.now.step c.args.self.now.count c.if-self-ne1.false

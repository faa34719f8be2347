use Rattle.at_index.proofs.DeskEdges.{found}
use Rattle.at_index.proofs.desk.desks_of.Goals as goal

pub returns-clause-some : goal.returns-clause-some
returns-clause-some c = found c.args.all.now.entries c.args.node c.get.result c.get.ensures.value

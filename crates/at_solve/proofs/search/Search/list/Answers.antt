use Rattle.std.proofs.Common.{arith, length}
use Rattle.at_solve.specs.declared.search.Mark.TheVariants.{Listed}
use Rattle.at_solve.proofs.Places.{set_here, set_there}
use Rattle.at_solve.proofs.search.Search.list.Goals as goal

pub returns-clause-listed : goal.returns-clause-listed
returns-clause-listed c = λ less. set_here c.args.self.now.marks.items c.args.node Listed less

pub returns-clause-others : goal.returns-clause-others
returns-clause-others c = λ u other. set_there c.args.self.now.marks.items c.args.node u Listed other

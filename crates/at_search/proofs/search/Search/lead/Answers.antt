use Rattle.std.proofs.Common.{reverse}
use Rattle.at_search.proofs.Seeing.{formed_todo}
use Rattle.at_search.proofs.search.Search.lead.Goals as goal

pub returns-in-Formed-clause-todo : goal.returns-in-Formed-clause-todo
returns-in-Formed-clause-todo c =
    rw c.in-Formed.is (formed_todo c.add_atoms.result c.pieces.result.now c.in-Formed.formed.formula (reverse c.args.self.now.todo.items)
    (reverse c.add_atoms.new.todo.items) c.pieces.ensures c.add_atoms.ensures)

use Rattle.at_index.proofs.Common.{refl, edges_at}
use Rattle.at_index.proofs.Noted.{noted_there}
use Rattle.at_index.proofs.noting.note_node.Goals as goal

pub returns-else-not-is_noted-clause-noted : goal.returns-else-not-is_noted-clause-noted
returns-else-not-is_noted-clause-noted c = noted_there (edges_at c.args.readers.now) c.args.index_read.now.items c.args.node (c.if-not-is_noted.ensures refl)

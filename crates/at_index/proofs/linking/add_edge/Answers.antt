use Rattle.at_index.proofs.OneEdge.{lists_first}
use Rattle.at_index.proofs.linking.add_edge.Goals as goal

pub returns-in-Empty-clause-lists : goal.returns-in-Empty-clause-lists
returns-in-Empty-clause-lists g c = rw (c.in-Empty.is, c.of.ensures) (lists_first _ _)

pub returns-in-More-clause-lists : goal.returns-in-More-clause-lists
returns-in-More-clause-lists g c = rw (c.in-More.is, ← c.deref_mut.ensures.value) c.add_to_many.ensures.lists

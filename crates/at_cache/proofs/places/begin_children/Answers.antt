use Rattle.at_cache.proofs.Common.{ap}
use Rattle.at_cache.proofs.Naming.{goes_to_children, goes_to_noted}
use Rattle.at_cache.proofs.places.begin_children.Goals as goal
use Rattle.at_cache.proofs.places.begin_children.Goals.{then-index_read-children, else-index_read-children}

pub returns : goal.returns
returns g c = elim c.if-index_read-children.branch [
  | then-index_read-children t ↦ goes_to_noted c.args.index_read.now c.args.children.now c.requires.noted (rw (ap (λ f. f.now) t.fewer-is) at c.begin_nodes.ensures)
  | else-index_read-children t ↦ goes_to_children c.args.children.now (rw (ap (λ f. f.now) t.fewer-is) at c.begin_nodes.ensures)
]

use Rattle.at_index.proofs.Common.{refl, ap, sym, nat_eq}
use Rattle.at_index.proofs.RowEdges.{many}
use Rattle.at_index.proofs.edge.Edges.is_empty.Goals as goal

pub returns-in-Empty : goal.returns-in-Empty
returns-in-Empty c = rw c.in-Empty.is refl

pub returns-in-Few : goal.returns-in-Few
returns-in-Few c = rw c.in-Few.is (ap (λ n. nat_eq n 0) (sym (many _ _ 0 _)))

pub returns-in-More : goal.returns-in-More
returns-in-More c = rw (c.in-More.is, ← c.deref.ensures, ← c.as_slice.ensures) c.are_empty.ensures

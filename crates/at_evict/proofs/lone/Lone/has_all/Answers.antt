use Rattle.at_evict.proofs.of_folding.Gathering.{alone_none}
use Rattle.at_evict.proofs.lone.Lone.has_all.Goals as goal

pub returns-in-Empty : goal.returns-in-Empty
returns-in-Empty c there into lone t = rw c.in-Empty.is (alone_none there into)

pub returns-in-Few : goal.returns-in-Few
returns-in-Few c = rw (c.in-Few.is, ← c.few.ensures) c.has_row.ensures

pub returns-in-More : goal.returns-in-More
returns-in-More c = rw (c.in-More.is, ← c.deref.ensures, ← c.as_slice.ensures) c.has_rows.ensures

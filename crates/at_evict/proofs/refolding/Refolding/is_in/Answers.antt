use Rattle.at_evict.proofs.refolding.Refolding.is_in.Goals as goal

pub returns-in-Few : goal.returns-in-Few
returns-in-Few c = rw (c.in-Few.is, ← c.few.ensures) c.is_in_row.ensures

pub returns-in-More : goal.returns-in-More
returns-in-More c = rw (c.in-More.is, ← c.deref.ensures, ← c.as_slice.ensures) c.is_in_rows.ensures

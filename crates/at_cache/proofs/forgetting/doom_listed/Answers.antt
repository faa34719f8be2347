use Rattle.at_cache.proofs.of_cut.Passing.{over_none}
use Rattle.at_cache.proofs.forgetting.doom_listed.Goals as goal

pub returns-in-Empty : goal.returns-in-Empty
returns-in-Empty c = rw c.in-Empty.is (over_none c.args.loss c.args.first c.args.cut.now)

pub returns-in-Few : goal.returns-in-Few
returns-in-Few c = rw c.in-Few.is (rw c.few.ensures at c.doom_row.ensures)

pub returns-in-More : goal.returns-in-More
returns-in-More c = rw c.in-More.is (rw (c.as_slice.ensures, c.deref.ensures) at c.doom_all.ensures)

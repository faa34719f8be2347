use Rattle.at_store.proofs.Arranged.{arranged_same}
use Rattle.at_store.proofs.Written.{mark_written}
use Rattle.at_store.proofs.marks.set_mark.Goals as goal

pub returns-in-Some-clause-stays : goal.returns-in-Some-clause-stays
returns-in-Some-clause-stays c = arranged_same _ _ (mark_written c.args.slab.now c.index.result c.in-Some.entry.now c.args.leaves c.in-Some.ensures.value)

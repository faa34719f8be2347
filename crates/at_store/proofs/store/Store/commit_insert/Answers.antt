use Rattle.std.proofs.Common.{None, refl}
use Rattle.at_store.proofs.of_edits.Committed.{insert_committed}
use Rattle.at_store.proofs.store.Store.commit_insert.Goals as goal

pub returns : goal.returns
returns c classes old e p =
    insert_committed classes old c.args.self.now
    (record c.args.self.now { slab = c.place.new.slab; waiting = None; leaving = None }) e c.args.node c.args.part
    c.args.index c.args.new p c.place.ensures.written c.place.ensures.marks refl refl refl refl

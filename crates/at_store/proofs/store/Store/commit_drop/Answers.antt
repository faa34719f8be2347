use Rattle.std.proofs.Common.{None, refl}
use Rattle.at_store.proofs.of_edits.Taken.{drop_committed}
use Rattle.at_store.proofs.store.Store.commit_drop.Goals as goal

pub returns : goal.returns
returns c classes old e p =
    drop_committed classes old c.args.self.now (record c.args.self.now {
      slab = c.take_away.new.slab;
      waiting = None;
      leaving = None;
    }) e c.args.node p c.take_away.ensures.written c.take_away.ensures.marks refl refl refl refl

use Rattle.std.proofs.Common.{None, refl}
use Rattle.at_store.proofs.of_edits.Replaced.{set_committed}
use Rattle.at_store.proofs.store.Store.commit_set.Goals as goal

pub returns : goal.returns
returns c classes old e p =
    set_committed classes old c.args.self.now (record c.args.self.now
    { slab = c.replace.new.slab; root = c.root_after-self.result; waiting = None; leaving = None }) e c.args.node
    c.args.new p c.replace.ensures.written c.replace.ensures.marks c.root_after-self.ensures refl refl refl

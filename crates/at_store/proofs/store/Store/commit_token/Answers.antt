use Rattle.std.proofs.Common.{None, refl}
use Rattle.at_tree.specs.Token.{token_view}
use Rattle.at_store.proofs.of_edits.Committed.{token_committed}
use Rattle.at_store.proofs.store.Store.commit_token.Goals as goal

pub returns : goal.returns
returns c classes old e p =
    token_committed classes old c.args.self.now (record c.args.self.now
    { slab = c.set_token.new.slab; waiting = None; leaving = None }) e c.args.node c.args.part
    (token_view c.args.value) p c.set_token.ensures.written c.set_token.ensures.marks refl refl refl refl

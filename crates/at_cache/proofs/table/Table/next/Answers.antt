use Rattle.at_cache.proofs.Common.{◌≡◌, None, sym, subst, IfOk-weaker, get}
use Rattle.at_cache.proofs.Changing.{free_slot}
use Rattle.at_cache.proofs.table.Table.next.Goals as goal

pub returns-clause-free : goal.returns-clause-free
returns-clause-free c = IfOk-weaker c.small.result _ _
    (λ n is. free_slot c.args.self.now.entries.entries (get c.args.self.now.places) n (subst
    (λ k. get c.args.self.now.places k ≡ None) (sym is) c.vacant_key.ensures.vacant)) c.small.ensures

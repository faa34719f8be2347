use Rattle.at_cache.proofs.Common.{◌≡◌, IfSome, subst, edges_of}
use Rattle.at_cache.proofs.of_cut.Slotted.{users_there}
use Rattle.at_cache.proofs.table.Table.users_row.Goals as goal

pub returns : goal.returns
returns c = subst (λ us. IfSome c.row.result (λ row. edges_of row ≡ us))
    (users_there c.args.self.now c.args.slot _ c.in_ok-entry.ensures) c.row.ensures

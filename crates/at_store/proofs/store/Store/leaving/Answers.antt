use Rattle.std.proofs.Common.{◌∙◌, ap, nat_eq}
use Rattle.std.specs.List.{list_any}
use Rattle.at_store.proofs.of_planting.Departing.{marked_where_gone}
use Rattle.at_store.proofs.of_edits.Spared.{listed_in}
use Rattle.at_store.proofs.store.Store.leaving.Goals as goal

pub returns : goal.returns
returns c classes old e p listed k n at' gone =
    let ready = c.args.ready.now in
    ap (list_any (nat_eq k)) c.as_slice.ensures.value ∙ listed_in ready.leaving.items k (listed k (marked_where_gone classes old c.args.self.now e ready.prepared p k n at' gone))

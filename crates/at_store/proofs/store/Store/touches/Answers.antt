use Rattle.std.proofs.Common.{◌∙◌}
use Rattle.at_store.specs.Located.{loc_view}
use Rattle.at_store.specs.View.{leaves_in}
use Rattle.at_store.proofs.of_edits.ShiftsTold.{touched_told}
use Rattle.at_store.proofs.of_edits.TouchesTold.{are_marked}
use Rattle.at_store.proofs.store.Store.touches.Goals as goal

pub returns : goal.returns
returns c classes old e p l like =
    let marked = are_marked classes old c.args.self.now e c.args.ready.now.prepared p in
    c.touches.ensures ∙ touched_told classes old c.args.self.now e c.args.ready.now.prepared p (leaves_in c.args.self.now.slab) marked (loc_view c.args.loc) l like

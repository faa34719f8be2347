use Rattle.std.proofs.Common.{ap, sym, ◌∙◌}
use Rattle.slab.specs.Slab.{get}
use Rattle.at_store.proofs.Arranged.{stands_as_kept}
use Rattle.at_store.proofs.entry.index_at.Goals as goal

pub returns-in-Some : goal.returns-in-Some
returns-in-Some c once = stands_as_kept c.args.slab.now c.args.node c.index_by.result c.in-Some.entry.now
    (ap (get c.args.slab.now) (sym c.index.ensures) ∙ sym (c.in-Some.ensures {u = tt})) c.index_by.ensures once

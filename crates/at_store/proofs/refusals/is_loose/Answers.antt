use Rattle.std.proofs.Common.{ap, not, sym}
use Rattle.at_store.specs.View.{memory_of}
use Rattle.at_store.proofs.Loose.{all_loose}
use Rattle.at_store.proofs.refusals.is_loose.Goals as goal

pub returns-then-not-has_fixed : goal.returns-then-not-has_fixed
returns-then-not-has_fixed c =
    sym (all_loose c.args.classes.now (memory_of c.args.slab.now) (c.has_fixed.ensures (ap not c.if-not-has_fixed.true)) c.args.edit.now)

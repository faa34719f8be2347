use Rattle.std.proofs.Common.{ap}
use Rattle.at_model.specs.Drawers.{mark_from}
use Rattle.at_class.proofs.key.mark_of.Goals as goal

pub loop-byte-init : goal.loop-byte-init
loop-byte-init c = ap (mark_from 0) c.as_bytes-byte-items.ensures.value

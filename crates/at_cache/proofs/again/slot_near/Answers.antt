use Rattle.at_cache.proofs.of_cut.Slotted.{slot_is}
use Rattle.at_cache.proofs.again.slot_near.Goals as goal

pub returns-in-Some : goal.returns-in-Some
returns-in-Some c = slot_is c.args.entries.now c.args.instance.now _ c.in-Some.ensures

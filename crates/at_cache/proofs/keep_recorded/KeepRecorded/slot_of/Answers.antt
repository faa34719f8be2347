use Rattle.at_cache.proofs.of_cut.Slotted.{has_slots}
use Rattle.at_cache.proofs.keep_recorded.KeepRecorded.slot_of.Goals as goal

pub returns : goal.returns
returns c = has_slots c.args.self.now.cut.entries c.args.inst.now c.slot_by.result c.slot_by.ensures

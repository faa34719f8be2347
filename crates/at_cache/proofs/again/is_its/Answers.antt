use Rattle.at_cache.proofs.Common.{◌∙◌, sym}
use Rattle.at_cache.proofs.of_cut.Slotted.{its_slot}
use Rattle.at_cache.proofs.again.is_its.Goals as goal

pub returns-in-Some : goal.returns-in-Some
returns-in-Some c on = its_slot c.args.entries.now c.args.slot c.args.instance.now _ c.in-Some.ensures (sym c.eq.ensures ∙ on)

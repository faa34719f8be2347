use Rattle.at_cache.proofs.Common.{◌∙◌, sym, none-some, IfOk-weaker}
use Rattle.at_cache.proofs.of_cut.EnteredHeld.{is_next, is_slot, its_slot_is}
use Rattle.at_cache.proofs.of_cut.Slotted.{has_slot, no_slot}
use Rattle.at_cache.proofs.renewing.slot_for.Goals as goal

pub returns-in-Some-clause-slot : goal.returns-in-Some-clause-slot
returns-in-Some-clause-slot c = is_slot c.args.entries.now c.args.inst.now _
    (has_slot c.args.entries.now c.args.inst.now _ c.in-Some.ensures)

pub returns-in-Some-clause-its : goal.returns-in-Some-clause-its
returns-in-Some-clause-its c = its_slot_is c.args.entries.now c.args.inst.now _
    (has_slot c.args.entries.now c.args.inst.now _ c.in-Some.ensures)

pub returns-in-None-clause-slot : goal.returns-in-None-clause-slot
returns-in-None-clause-slot c = IfOk-weaker c.next.result _ _ (λ slot. is_next c.args.entries.now c.args.inst.now slot
    (no_slot c.args.entries.now c.args.inst.now c.in-None.ensures)) c.next.ensures.key

pub returns-in-None-clause-its : goal.returns-in-None-clause-its
returns-in-None-clause-its c = IfOk-weaker c.next.result _ _ (λ slot free e there. absurd (none-some e (sym free
    ∙ there))) c.next.ensures.free

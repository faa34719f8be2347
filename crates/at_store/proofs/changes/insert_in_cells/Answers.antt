use Rattle.std.proofs.Common.{◌≤◌, ℕ, List, Some, length, sym, ◌∙◌, ap, subst}
use Rattle.at_store.specs.Held.{held}
use Rattle.at_store.specs.Memory.{numbers_in}
use Rattle.at_store.specs.Reserving.{HasSpace}
use Rattle.at_store.specs.View.{kept_view}
use Rattle.at_store.specs.declared.entry.Slot.{Slot}
use Rattle.at_store.proofs.PutBack.{back_shown, kids_out, room_out}
use Rattle.at_store.proofs.changes.insert_in_cells.Goals as goal

pub returns : goal.returns
returns c room within =
    let cells = held c.args.cells.now in
    let part = c.args.part in
    let taken = c.take-slot.ensures.taken in
    back_shown cells _ _ part c.take-slot.result c.insert_in_slot.new.slot taken c.take-slot.ensures.left c.put.ensures _
    (c.insert_in_slot.ensures (subst (λ (s : Slot). HasSpace (Some s)) (sym taken) (room_out cells part room))
    (subst (λ (ns : List ℕ). c.args.index ≤ length ns) (kids_out cells part ∙ ap (λ (s : Slot). numbers_in (Some (kept_view s))) (sym taken)) within))

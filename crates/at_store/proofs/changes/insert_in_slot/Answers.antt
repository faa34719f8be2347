use Rattle.std.proofs.Common.{◌≤◌, length, Some, sym, ap, ◌∙◌, subst}
use Rattle.std.specs.List.{insert}
use Rattle.at_store.specs.Memory.{Kids, numbers_in, with_numbers}
use Rattle.at_store.specs.Reserving.{HasSpace}
use Rattle.at_store.specs.View.{form_view, kept_view}
use Rattle.at_store.specs.declared.entry.Slot.{Slot}
use Rattle.at_store.proofs.changes.insert_in_slot.Goals as goal

pub returns-in-Kids : goal.returns-in-Kids
returns-in-Kids c room within =
    let is = c.in-Kids.is in
    ap (Kids (form_view c.in-Kids.field-0))
    (c.insert_number.ensures (subst (λ (s : Slot). HasSpace (Some s)) is room).0 (subst (λ (s : Slot). c.args.index ≤ length (numbers_in (Some (kept_view s)))) is within)) ∙
    sym (ap (λ (s : Slot). with_numbers (λ ns. insert ns c.args.index c.args.new) (kept_view s)) is)

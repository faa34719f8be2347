use Rattle.std.proofs.Common.{Some, subst}
use Rattle.at_store.specs.Reserving.{HasSpace}
use Rattle.at_store.specs.declared.entry.Slot.{Slot}
use Rattle.at_store.proofs.changes.set_first_in_slot.Goals as goal

pub returns-in-Kids-clause-room : goal.returns-in-Kids-clause-room
returns-in-Kids-clause-room c room = subst (λ (s : Slot). HasSpace (Some s)) c.in-Kids.is room

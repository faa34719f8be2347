use Rattle.std.proofs.Common.{arith}
use Rattle.at_store.proofs.changes.remove_number.Goals as goal

pub returns-then-index-len-clause-room : goal.returns-then-index-len-clause-room
returns-then-index-len-clause-room c room = (omega (arith, room.0, c.remove.ensures.len, c.remove.ensures.capacity), omega (arith, room.1, c.remove.ensures.len))

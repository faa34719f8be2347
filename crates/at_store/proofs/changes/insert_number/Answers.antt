use Rattle.at_store.proofs.of_edits.Reserved.{done}
use Rattle.at_store.proofs.changes.insert_number.Goals as goal

pub returns-then-index-len : goal.returns-then-index-len
returns-then-index-len c room within = done c.insert.result (c.insert.ensures.succeeds room) c.insert.ensures.ok

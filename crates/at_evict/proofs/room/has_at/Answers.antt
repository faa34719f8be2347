use Rattle.at_evict.proofs.Common.{refl, node_there, along_has}
use Rattle.at_evict.proofs.room.has_at.Goals as goal

pub returns-in-Some : goal.returns-in-Some
returns-in-Some c h =
    let at = c.in-Some.ensures.lookup in
    along_has c.args.rows.now c.args.place c.in-Some.row.now c.args.edge
    (node_there c.args.rows.now c.args.place c.args.place c.in-Some.row.now refl at.0 at.1) (c.has.ensures h)

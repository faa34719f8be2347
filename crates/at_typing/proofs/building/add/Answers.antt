use Rattle.std.proofs.Common.{map}
use Rattle.at_typing.specs.Meanings.{meant}
use Rattle.at_typing.specs.Numbering.{numbered_view}
use Rattle.at_typing.proofs.InOrder.{told}
use Rattle.at_typing.proofs.building.add.Goals as goal

pub returns-in-Ok : goal.returns-in-Ok
returns-in-Ok c = λ ds about. c.in-Ok.ensures ds about

pub returns-in-Err : goal.returns-in-Err
returns-in-Err c = λ ds about.
    let d = numbered_view c.args.numbered.now in
    told d c.args.numbered.now.name (meant c.args.among.now.arguments c.args.among.now.classes.now
    (map numbered_view ds) d) c.args.meant.now
    c.add.new.meant c.in-Err.fault c.refusal.result c.refusal.ensures (c.in-Err.ensures ds about)

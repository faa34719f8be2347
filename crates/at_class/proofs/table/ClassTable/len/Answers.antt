use Rattle.std.proofs.Common.{arith}
use Rattle.at_class.proofs.Entries.{length_of}
use Rattle.at_class.proofs.table.ClassTable.len.Goals as goal

pub returns-clause-len : goal.returns-clause-len
returns-clause-len c =
    let n = length_of c.self.inside.names.keys c.self.inside.entries.items c.args.self.now c.self.invariant.count c.self.view_is in
    omega (arith, n, c.len.ensures, c.self.inside.entries.ok.0)

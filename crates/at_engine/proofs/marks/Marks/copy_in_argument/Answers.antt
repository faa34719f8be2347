use Rattle.std.proofs.Common.{refl}
use Rattle.at_engine.specs.Marks.{listed}
use Rattle.at_engine.proofs.of_marks.Copying.{copied_nothing}
use Rattle.at_engine.proofs.marks.Marks.copy_in_argument.Goals as goal

pub returns-in-Node : goal.returns-in-Node
returns-in-Node c = rw c.in-Node.is c.copy_in.ensures

pub returns-in-Text : goal.returns-in-Text
returns-in-Text c = rw c.in-Text.is (copied_nothing c.args.session (listed c.args.self.now.items.entries) c.args.copies.now.items.items c.args.copies.now.items.items refl)

pub returns-in-Null : goal.returns-in-Null
returns-in-Null c = rw c.in-Null.is (copied_nothing c.args.session (listed c.args.self.now.items.entries) c.args.copies.now.items.items c.args.copies.now.items.items refl)

use Rattle.at_seek.proofs.Found.{child_kind}
use Rattle.at_seek.proofs.finder.Finder.child.Goals as goal

pub returns : goal.returns
returns c = λ rules s e over kind. child_kind rules c.args.self.now s e c.child_of.result c.args.class c.args.part over c.child_of.ensures kind

use Rattle.std.proofs.Common.{ap, ◌∙◌}
use Rattle.std.specs.List.{slice_get}
use Rattle.at_store.specs.View.{memory_of}
use Rattle.at_store.specs.Shown.{numbers}
use Rattle.at_store.proofs.Looked.{children_are}
use Rattle.at_store.proofs.store.Store.child.Goals as goal

pub returns : goal.returns
returns c = c.kid_at.ensures ∙ ap (λ ks. slice_get ks 0) (children_are (memory_of c.args.self.now.slab) (numbers c.args.self.now) c.requires.keeps c.args.node c.args.part)

use Rattle.std.proofs.Common.{◌∙◌}
use Rattle.at_store.specs.View.{memory_of}
use Rattle.at_store.specs.Shown.{numbers}
use Rattle.at_store.proofs.Looked.{parent_is}
use Rattle.at_store.proofs.store.Store.up.Goals as goal

pub returns : goal.returns
returns c = c.up_at.ensures ∙ parent_is (memory_of c.args.self.now.slab) (numbers c.args.self.now) c.requires.keeps c.args.node

use Rattle.std.proofs.Common.{◌∙◌}
use Rattle.at_store.specs.View.{memory_of}
use Rattle.at_store.specs.Shown.{numbers}
use Rattle.at_store.proofs.Looked.{token_is}
use Rattle.at_store.proofs.store.Store.token.Goals as goal

pub returns : goal.returns
returns c = c.token_at.ensures ∙ token_is (memory_of c.args.self.now.slab) (numbers c.args.self.now) c.requires.keeps c.args.node c.args.part

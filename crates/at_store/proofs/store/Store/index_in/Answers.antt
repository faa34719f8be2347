use Rattle.std.proofs.Common.{◌∙◌, arith}
use Rattle.at_store.proofs.Reading.{small_index}
use Rattle.at_store.specs.View.{memory_of}
use Rattle.at_store.specs.Shown.{numbers}
use Rattle.at_store.proofs.Looked.{index_is}
use Rattle.at_store.proofs.Arranged.{once_kept}
use Rattle.at_store.proofs.store.Store.index_in.Goals as goal

pub returns-clause-shown : goal.returns-clause-shown
returns-clause-shown c = c.index_at.ensures
    (once_kept (memory_of c.args.self.now.slab) (numbers c.args.self.now) c.requires.keeps c.args.node)
    ∙ index_is (memory_of c.args.self.now.slab) (numbers c.args.self.now) c.requires.keeps c.args.node

pub returns-clause-within : goal.returns-clause-within
returns-clause-within c = omega (
  arith,
  c.index_at.ensures (once_kept (memory_of c.args.self.now.slab)
      (numbers c.args.self.now) c.requires.keeps c.args.node),
  small_index c.args.self.now c.requires c.args.node,
)

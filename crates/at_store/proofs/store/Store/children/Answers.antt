use Rattle.std.proofs.Common.{◌∙◌, arith, ap, length}
use Rattle.at_store.proofs.Reading.{few_children}
use Rattle.at_store.specs.View.{memory_of}
use Rattle.at_store.specs.Shown.{numbers}
use Rattle.at_store.proofs.Looked.{children_are}
use Rattle.at_store.proofs.store.Store.children.Goals as goal

pub returns-clause-shown : goal.returns-clause-shown
returns-clause-shown c = c.kids_at.ensures ∙ children_are (memory_of c.args.self.now.slab) (numbers c.args.self.now) c.requires.keeps c.args.node c.args.part

pub returns-clause-few : goal.returns-clause-few
returns-clause-few c = omega (arith, ap length c.kids_at.ensures, few_children c.args.self.now c.requires c.args.node c.args.part)

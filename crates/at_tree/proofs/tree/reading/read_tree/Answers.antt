use Rattle.at_class.specs.TreeView.{tree_view}
use Rattle.at_tree.proofs.ReadTreesLemmas.{again_found}
use Rattle.at_tree.proofs.tree.reading.read_tree.Goals as goal

pub returns-in-Ok-clause-again : goal.returns-in-Ok-clause-again
returns-in-Ok-clause-again c = λ u whole is same. again_found c.args.classes.now c.in-Ok.ensures.sound c.args.text.now c.args.under u (tree_view c.in-Ok.tree) whole (is, same) c.in-Ok.ensures.found

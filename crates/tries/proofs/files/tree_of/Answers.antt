use Rattle.at_tree.specs.TreeView.{tree_view}
use Rattle.tries.proofs.Placed.{read_tokens}
use Rattle.tries.proofs.files.tree_of.Goals as goal

pub returns-in-Ok : goal.returns-in-Ok
returns-in-Ok c = read_tokens c.args.classes.now c.start.ensures.sound _ _ (tree_view c.in-Ok.tree) c.in-Ok.ensures.found

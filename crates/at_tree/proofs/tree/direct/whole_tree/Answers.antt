use Rattle.at_class.specs.TreeView.{tree_view}
use Rattle.at_tree.proofs.ReadTreesLemmas.{read_whole}
use Rattle.at_tree.proofs.tree.direct.whole_tree.Goals as goal

pub returns-then-is_empty-clause-found : goal.returns-then-is_empty-clause-found
returns-then-is_empty-clause-found c = read_whole c.args.classes.now c.args.text.now c.take_tree.new.front.rest.now c.args.under (tree_view c.in_ok-tree.tree) _ c.in_ok-tree.ensures.front c.is_empty.ensures c.if-is_empty.true

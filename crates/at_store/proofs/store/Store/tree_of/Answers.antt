use Rattle.std.proofs.Common.{◌≡◌, IfOk, subst}
use Rattle.at_model.specs.Trees.{Tree}
use Rattle.at_tree.specs.TreeView.{tree_view}
use Rattle.at_store.proofs.Reading.{below_grown}
use Rattle.at_store.proofs.store.Store.tree_of.Goals as goal

pub returns : goal.returns
returns c n u p is = subst (λ (x : Tree). IfOk c.tree_at.result (λ t. tree_view t ≡ x)) (below_grown c.args.self.now c.requires c.args.node n u p is) c.tree_at.ensures

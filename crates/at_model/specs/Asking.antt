-- Which instances may be asked of a tree.
use Rattle.std.specs.Prelude.{◌≡◌, true, Some}
use Rattle.std.specs.List.{slice_get}
use Rattle.at_model.specs.Classes.{is_sub}
use Rattle.at_model.specs.Trees.{Tree, class_of}
use Rattle.at_model.specs.Paths.{Node, tree_at}
use Rattle.at_model.specs.Run.{Instance}
use Rattle.at_model.specs.Rules.{Rules, Attribute}
use Rattle.at_model.specs.Machine.{fit_parameters}

-- The node is one of the tree, its class or one above it declares the attribute, and the arguments are as many as the
-- parameters, each of which fits its own.
pub record IsWellFormed (rules : Rules) (t : Tree) (i : Instance Node) : Type 0 where
  pub node : Tree
  pub there : tree_at t i.node ≡ Some node
  pub declared : Attribute
  pub attribute : slice_get rules.attributes i.attribute ≡ Some declared
  pub has : is_sub rules.classes (class_of node) declared.class ≡ true
  pub fit : fit_parameters rules.classes t declared.parameters i.arguments ≡ true

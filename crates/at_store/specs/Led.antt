-- Where steps lead in a numbered tree.
use Rattle.std.specs.Prelude.{◌≡◌, ℕ, Option, Some, None, ◌++◌}
use Rattle.at_model.specs.Classes.{Classes}
use Rattle.at_model.specs.Trees.{Tree}
use Rattle.at_model.specs.Paths.{Node, Path, node_at}
use Rattle.at_store.specs.Numbers.{path_in}

-- from the tree t at the node n the steps lead to the node of that number, or nowhere
abbrev pub Led : (numbers : Tree) → Classes → (n : Node) → (t : Tree) → Path → Option ℕ → Type 0
Led numbers classes n t steps None = node_at classes t steps ≡ None
Led numbers classes n t steps (Some k) = (m : Node) × (node_at classes t steps ≡ Some m) × (path_in k numbers ≡ Some (n ++ m))

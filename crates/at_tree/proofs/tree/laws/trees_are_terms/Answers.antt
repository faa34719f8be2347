use Rattle.at_model.specs.Terms.{max_depth}
use Rattle.at_model.proofs.of_texts.WrittenTrees.{tree_term}
use Rattle.at_tree.proofs.tree.laws.trees_are_terms.Goals as goal

pub returns : goal.returns
returns c = λ classes sound t b h tokens deep. tree_term classes sound max_depth t b h deep tokens

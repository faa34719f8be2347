use Rattle.std.proofs.Common.{refl}
use Rattle.at_model.specs.Paths.{node_eq}
use Rattle.at_model.proofs.Nodes.{node_eq-is}
use Rattle.at_model.proofs.of_lists.Closing.{no_long}
use Rattle.at_model.proofs.list_laws.a_closure_has_turns_enough.Goals as goal

pub returns : goal.returns
returns c = λ look known what all ns f few apart there spreads e. no_long node_eq (λ a b. (node_eq-is a b).0) (λ n. (node_eq-is n n).1 refl) look known what all spreads ns f few apart there e

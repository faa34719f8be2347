use Rattle.at_model.proofs.of_texts.Shaped.{conforms_shaped}
use Rattle.at_model.proofs.machine_laws.a_written_tree_is_shaped_again.Goals as goal

pub returns : goal.returns
returns c = λ classes apart u b. conforms_shaped classes apart u b

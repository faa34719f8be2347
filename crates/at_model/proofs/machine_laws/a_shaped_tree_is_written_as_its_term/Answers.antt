use Rattle.at_model.proofs.of_texts.Shaped.{shaped_conforms}
use Rattle.at_model.proofs.machine_laws.a_shaped_tree_is_written_as_its_term.Goals as goal

pub returns : goal.returns
returns c = λ classes t b u. shaped_conforms classes t b u

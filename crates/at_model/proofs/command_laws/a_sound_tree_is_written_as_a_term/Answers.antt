use Rattle.at_model.proofs.of_texts.WrittenTrees.{written_as_term}
use Rattle.at_model.proofs.command_laws.a_sound_tree_is_written_as_a_term.Goals as goal

pub returns : goal.returns
returns c = written_as_term

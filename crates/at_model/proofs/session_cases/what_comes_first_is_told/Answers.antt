use Rattle.std.proofs.Common.{[], false, codes, refl}
use Rattle.std.specs.Fmt.{digits}
use Rattle.at_model.specs.Classes.{chain}
use Rattle.at_model.specs.Names.{reserved_words}
use Rattle.at_model.specs.Lines.{From_root, Ask}
use Rattle.at_model.specs.Run.{Int, Truth}
use Rattle.at_model.specs.Run as run
use Rattle.at_model.specs.Meaning.{Outcomes, Finds, Faults, Circle}
use Rattle.at_model.specs.Samples.{of_node}
use Rattle.at_model.specs.SampleLines.{says}
use Rattle.at_model.proofs.of_machines.Played.{ends, question}
use Rattle.at_model.proofs.SampleCircles.{root_circle}
use Rattle.at_model.proofs.session_cases.what_comes_first_is_told.Goals as goal

pub returns : goal.returns
unfolding chain digits reserved_words
returns c =
    question (says (Ask (From_root ([])) (codes "c1") ([]))) (Outcomes (Finds (Truth false))) refl refl refl (9, refl) refl
    (question (says (Ask (From_root ([])) (codes "c2") ([]))) (Outcomes (Faults run.Zero (of_node ([]) 12))) refl refl refl (9, refl) refl
    (question (says (Ask (From_root ([])) (codes "c3") ([]))) (Circle (of_node ([]) 9)) refl refl refl (root_circle) refl ends))

use Rattle.std.proofs.Common.{[], ◌∷◌, pos, codes, refl}
use Rattle.std.specs.Fmt.{digits}
use Rattle.at_model.specs.Classes.{chain}
use Rattle.at_model.specs.Names.{reserved_words}
use Rattle.at_model.specs.Lines.{From_root, Int, Ask}
use Rattle.at_model.specs.Run as run
use Rattle.at_model.specs.Run.{Zero}
use Rattle.at_model.specs.Meaning.{Outcomes, Finds, Faults}
use Rattle.at_model.specs.SampleLines.{block_path, says}
use Rattle.at_model.proofs.of_machines.Played.{ends, line, question}
use Rattle.at_model.proofs.refusal_cases.overloaded_attributes_are_told_apart.Goals as goal

pub returns : goal.returns
unfolding chain digits reserved_words
returns c =
    question (says (Ask (From_root []) (codes "next") (Int (pos 3) ∷ []))) (Outcomes (Finds (run.Int (pos 4)))) refl refl refl (9, refl) refl
    (question (says (Ask (From_root []) (codes "next") []))
    (Outcomes (Faults Zero (record { node = []; attribute = 17; arguments = [] }))) refl refl refl (9, refl) refl
    (line (says (Ask (From_root []) (codes "next") (Int (pos 3) ∷ Int (pos 4) ∷ []))) refl refl refl refl
    (line (says (Ask (From_root block_path) (codes "next") [])) refl refl refl refl ends)))

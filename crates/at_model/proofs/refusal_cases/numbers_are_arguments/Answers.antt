use Rattle.std.proofs.Common.{[], ◌∷◌, Some, true, pos, negsuc, codes, refl}
use Rattle.std.specs.Fmt.{digits}
use Rattle.at_model.specs.Classes.{chain}
use Rattle.at_model.specs.Names.{reserved_words}
use Rattle.at_model.specs.Lines.{From_root, From_mark, Int, Truth, Ask, Post}
use Rattle.at_model.specs.Run as run
use Rattle.at_model.specs.Run.{Long}
use Rattle.at_model.specs.Meaning.{Outcomes, Finds, Faults}
use Rattle.at_model.specs.SampleLines.{says}
use Rattle.at_model.proofs.of_machines.Played.{ends, line, question}
use Rattle.at_model.proofs.refusal_cases.numbers_are_arguments.Goals as goal

pub returns-clause-taken : goal.returns-clause-taken
unfolding chain digits reserved_words
returns-clause-taken c =
    question (says (Ask (From_root []) (codes "next") (Int (pos 3) ∷ []))) (Outcomes (Finds (run.Int (pos 4)))) refl refl refl (9, refl) refl
    (question (says (Ask (From_root []) (codes "next") (Int (negsuc 3) ∷ []))) (Outcomes (Finds (run.Int (negsuc 2)))) refl refl refl (9, refl) refl
    (question (says (Ask (From_root []) (codes "next") (Int (pos 1048576) ∷ []))) (Outcomes (Finds (run.Int (pos 1048577)))) refl refl refl (9, refl) refl
    (line (says (Ask (From_root []) (codes "next") (Int (pos 1048577) ∷ []))) refl refl refl refl
    (line (says (Ask (From_root []) (codes "next") (Truth true ∷ []))) refl refl refl refl
    (question (says (Ask (From_root []) (codes "far") (Int (pos 1) ∷ []))) (Outcomes (Finds (run.Int (pos 1000001)))) refl refl refl (9, refl) refl
    (question (says (Ask (From_root []) (codes "far") (Int (pos 2) ∷ [])))
    (Outcomes (Faults Long (record { node = []; attribute = 18; arguments = run.Int (pos 2) ∷ [] }))) refl refl refl (9, refl) refl ends))))))

pub returns-clause-unread : goal.returns-clause-unread
unfolding chain digits reserved_words
returns-clause-unread c =
    line (says (Ask (From_root []) (codes "next") (Int (pos 3) ∷ []))) refl refl refl refl
    (line (record { session = 0; expected = Some 5; command = Ask (From_mark (codes "u") []) (codes "next") (Truth true ∷ []) }) refl refl refl refl
    (line (says (Post (From_root []) (codes "next") (Int (pos 3) ∷ []))) refl refl refl refl ends))

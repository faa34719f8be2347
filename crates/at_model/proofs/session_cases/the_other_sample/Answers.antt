use Rattle.std.proofs.Common.{[], ◌∷◌, pos, codes, refl}
use Rattle.std.specs.Fmt.{digits}
use Rattle.at_model.specs.Classes.{chain}
use Rattle.at_model.specs.Names.{reserved_words}
use Rattle.at_model.specs.Trees as tree
use Rattle.at_model.specs.Lines.{From_root, Ask, Token, Show, Version}
use Rattle.at_model.specs.Run.{Int}
use Rattle.at_model.specs.Meaning.{Outcomes, Finds}
use Rattle.at_model.specs.SampleLines.{says, plain_step}
use Rattle.at_model.proofs.of_machines.Played.{ends, line, question}
use Rattle.at_model.proofs.session_cases.the_other_sample.Goals as goal

pub returns-clause-asked : goal.returns-clause-asked
unfolding chain digits reserved_words
returns-clause-asked c =
    question (says (Ask (From_root ([])) (codes "total") ([]))) (Outcomes (Finds (Int (pos 11)))) refl refl refl (9, refl) refl
    (line (says (Show (From_root (plain_step "Right" ∷ [])))) refl refl refl refl
    (line (says (Ask (From_root ([])) (codes "nosuch") ([]))) refl refl refl refl
    (line (says (Show (From_root (plain_step "Middle" ∷ [])))) refl refl refl refl ends)))

pub returns-clause-edited : goal.returns-clause-edited
unfolding chain digits reserved_words
returns-clause-edited c =
    line (says (Token (From_root (plain_step "Right" ∷ [])) (codes "Value") (tree.Int (pos 5)))) refl refl refl refl
    (question (says (Ask (From_root ([])) (codes "total") ([]))) (Outcomes (Finds (Int (pos 13)))) refl refl refl (9, refl) refl
    (line (says (Token (From_root ([])) (codes "Left") (tree.Int (pos 5)))) refl refl refl refl
    (line (says (Token (From_root (plain_step "Right" ∷ [])) (codes "Value") (tree.Text (codes "5")))) refl refl refl refl
    (line (says (Token (From_root (plain_step "Right" ∷ [])) (codes "Value") (tree.Int (pos 2147483647)))) refl refl refl refl
    (question (says (Ask (From_root ([])) (codes "total") ([]))) (Outcomes (Finds (Int (pos 1)))) refl refl refl (9, refl) refl
    (line (says (Show (From_root ([])))) refl refl refl refl
    (line (says (Version)) refl refl refl refl ends)))))))

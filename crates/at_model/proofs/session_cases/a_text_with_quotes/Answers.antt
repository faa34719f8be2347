use Rattle.std.proofs.Common.{[], ◌∷◌, Some, codes, refl}
use Rattle.std.specs.Fmt.{digits}
use Rattle.at_model.specs.Classes.{chain}
use Rattle.at_model.specs.Names.{reserved_words}
use Rattle.at_model.specs.Trees as tree
use Rattle.at_model.specs.Lines.{From_root, Text, Ask, Token, Show}
use Rattle.at_model.specs.Run.{Int, Truth}
use Rattle.at_model.specs.Run as run
use Rattle.at_model.specs.Meaning.{Outcomes, Finds}
use Rattle.at_model.specs.SampleLines.{says, plain_step, list_step}
use Rattle.at_model.proofs.of_machines.Played.{ends, line, question}
use Rattle.at_model.proofs.session_cases.a_text_with_quotes.Goals as goal

pub returns : goal.returns
unfolding chain digits reserved_words
returns c =
    line (says (Token (From_root (plain_step "Block" ∷ list_step "Stmt" 0 ∷ [])) (codes "ID") (tree.Text (codes "a\"b")))) refl refl refl refl
    (line (says (Show (From_root (plain_step "Block" ∷ list_step "Stmt" 0 ∷ [])))) refl refl refl refl
    (question (says (Ask (From_root (plain_step "Block" ∷ [])) (codes "local") (Text (codes "a\"b") ∷ [])))
    (Outcomes (Finds (run.Ref (Some ((0, 0) ∷ (0, 0) ∷ []))))) refl refl refl (9, refl) refl ends))

use Rattle.std.proofs.Common.{[], ◌∷◌, pos, codes, refl}
use Rattle.std.specs.Fmt.{digits}
use Rattle.at_model.specs.Classes.{chain}
use Rattle.at_model.specs.Names.{reserved_words}
use Rattle.at_model.specs.Trees as tree
use Rattle.at_model.specs.Lines.{From_root, Ask, Token}
use Rattle.at_model.specs.Run.{Int, Truth}
use Rattle.at_model.specs.Run as run
use Rattle.at_model.specs.Meaning.{Outcomes, Finds, Faults}
use Rattle.at_model.specs.Samples.{of_node}
use Rattle.at_model.specs.SampleLines.{says, plain_step, list_step}
use Rattle.at_model.proofs.of_machines.Played.{ends, line, question}
use Rattle.at_model.proofs.session_cases.a_token_is_edited.Goals as goal

pub returns-clause-summand : goal.returns-clause-summand
unfolding chain digits reserved_words
returns-clause-summand c =
    question (says (Ask (From_root (plain_step "Block" ∷ list_step "Stmt" 1 ∷ plain_step "Expr" ∷ [])) (codes "value") ([]))) (Outcomes (Finds (Int (pos 3)))) refl refl refl (9, refl) refl
    (line (says (Token (From_root (plain_step "Block" ∷ list_step "Stmt" 1 ∷ plain_step "Expr" ∷ plain_step "Right" ∷ [])) (codes "Value") (tree.Int (pos 5)))) refl refl refl refl
    (question (says (Ask (From_root (plain_step "Block" ∷ list_step "Stmt" 1 ∷ plain_step "Expr" ∷ [])) (codes "value") ([]))) (Outcomes (Finds (Int (pos 6)))) refl refl refl (9, refl) refl ends))

pub returns-clause-declared : goal.returns-clause-declared
unfolding chain digits reserved_words
returns-clause-declared c =
    question (says (Ask (From_root (plain_step "Block" ∷ list_step "Stmt" 1 ∷ plain_step "Expr" ∷ [])) (codes "value") ([]))) (Outcomes (Finds (Int (pos 3)))) refl refl refl (9, refl) refl
    (line (says (Token (From_root (plain_step "Block" ∷ list_step "Stmt" 0 ∷ plain_step "Init" ∷ [])) (codes "Value") (tree.Int (pos 4)))) refl refl refl refl
    (question (says (Ask (From_root (plain_step "Block" ∷ list_step "Stmt" 1 ∷ plain_step "Expr" ∷ [])) (codes "value") ([]))) (Outcomes (Finds (Int (pos 6)))) refl refl refl (9, refl) refl ends))

pub returns-clause-name : goal.returns-clause-name
unfolding chain digits reserved_words
returns-clause-name c =
    question (says (Ask (From_root (plain_step "Block" ∷ list_step "Stmt" 1 ∷ plain_step "Expr" ∷ [])) (codes "value") ([]))) (Outcomes (Finds (Int (pos 3)))) refl refl refl (9, refl) refl
    (line (says (Token (From_root (plain_step "Block" ∷ list_step "Stmt" 0 ∷ [])) (codes "ID") (tree.Text (codes "y")))) refl refl refl refl
    (question (says (Ask (From_root (plain_step "Block" ∷ list_step "Stmt" 1 ∷ plain_step "Expr" ∷ [])) (codes "value")
    ([]))) (Outcomes (Faults run.Null (of_node ((0, 0) ∷ (0, 1) ∷ (0, 0) ∷ (0, 0) ∷ []) 5))) refl refl refl
    (9, refl) refl ends))

use Rattle.std.proofs.Common.{[], ◌∷◌, pos, codes, refl}
use Rattle.std.specs.Fmt.{digits}
use Rattle.at_model.specs.Classes.{chain}
use Rattle.at_model.specs.Names.{reserved_words}
use Rattle.at_model.specs.Trees as tree
use Rattle.at_model.specs.Terms as term
use Rattle.at_model.specs.Lines.{From_root, Ask, Put, Drop}
use Rattle.at_model.specs.Run.{Int}
use Rattle.at_model.specs.Meaning.{Outcomes, Finds}
use Rattle.at_model.specs.SampleLines.{says, plain_step, list_step}
use Rattle.at_model.proofs.of_machines.Played.{ends, line, question}
use Rattle.at_model.proofs.session_cases.an_optional_is_edited.Goals as goal

pub returns : goal.returns
unfolding chain digits reserved_words
returns c =
    question (says (Ask (From_root (plain_step "Block" ∷ list_step "Stmt" 1 ∷ plain_step "Expr" ∷ [])) (codes "value") ([]))) (Outcomes (Finds (Int (pos 3)))) refl refl refl (9, refl) refl
    (line (says (Drop (From_root (plain_step "Block" ∷ list_step "Stmt" 0 ∷ plain_step "Init" ∷ [])))) refl refl refl refl
    (question (says (Ask (From_root (plain_step "Block" ∷ list_step "Stmt" 1 ∷ plain_step "Expr" ∷ [])) (codes "value") ([]))) (Outcomes (Finds (Int (pos 2)))) refl refl refl (9, refl) refl
    (line (says (Put (From_root (plain_step "Block" ∷ list_step "Stmt" 0 ∷ [])) (codes "Init") (term.Node (codes "Num") (term.cell (term.Holds (tree.Int (pos 7))) term.no_cells)))) refl refl refl refl
    (question (says (Ask (From_root (plain_step "Block" ∷ list_step "Stmt" 1 ∷ plain_step "Expr" ∷ [])) (codes "value") ([]))) (Outcomes (Finds (Int (pos 9)))) refl refl refl (9, refl) refl
    (line (says (Put (From_root (plain_step "Block" ∷ list_step "Stmt" 0 ∷ [])) (codes "Init") (term.Node (codes "Num")
    (term.cell (term.Holds (tree.Int (pos 8))) term.no_cells)))) refl refl refl refl ends)))))

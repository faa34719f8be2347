use Rattle.std.proofs.Common.{[], ◌∷◌, pos, codes, refl}
use Rattle.std.specs.Fmt.{digits}
use Rattle.at_model.specs.Classes.{chain}
use Rattle.at_model.specs.Names.{reserved_words}
use Rattle.at_model.specs.Trees as tree
use Rattle.at_model.specs.Terms as term
use Rattle.at_model.specs.Lines.{From_root, Ask, Set}
use Rattle.at_model.specs.Run.{Int}
use Rattle.at_model.specs.Meaning.{Outcomes, Finds, Circle}
use Rattle.at_model.specs.Samples.{of_node}
use Rattle.at_model.specs.SampleLines.{says, plain_step, list_step}
use Rattle.at_model.proofs.of_machines.Played.{ends, line, question}
use Rattle.at_model.proofs.SampleCircles.{statement_circle}
use Rattle.at_model.proofs.session_cases.a_circle_is_closed_and_opened.Goals as goal

pub returns : goal.returns
unfolding chain digits reserved_words
returns c =
    line (says (Set (From_root (plain_step "Block" ∷ list_step "Stmt" 0 ∷ plain_step "Init" ∷ []))
    (term.Node (codes "Use") (term.cell (term.Holds (tree.Text (codes "x"))) term.no_cells)))) refl refl refl refl
    (question (says (Ask (From_root (plain_step "Block" ∷ list_step "Stmt" 1 ∷ plain_step "Expr" ∷ [])) (codes "value")
    ([]))) (Circle (of_node ((0, 0) ∷ (0, 0) ∷ []) 6)) refl refl refl (statement_circle) refl
    (line (says (Set (From_root (plain_step "Block" ∷ list_step "Stmt" 0 ∷ plain_step "Init" ∷ []))
    (term.Node (codes "Num") (term.cell (term.Holds (tree.Int (pos 1))) term.no_cells)))) refl refl refl refl
    (question (says (Ask (From_root (plain_step "Block" ∷ list_step "Stmt" 1 ∷ plain_step "Expr" ∷ [])) (codes "value") ([]))) (Outcomes (Finds (Int (pos 3)))) refl refl refl (9, refl) refl ends)))

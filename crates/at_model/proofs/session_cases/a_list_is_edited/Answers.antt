use Rattle.std.proofs.Common.{[], ◌∷◌, pos, codes, refl}
use Rattle.std.specs.Fmt.{digits}
use Rattle.at_model.specs.Classes.{chain}
use Rattle.at_model.specs.Names.{reserved_words}
use Rattle.at_model.specs.Trees as tree
use Rattle.at_model.specs.Terms as term
use Rattle.at_model.specs.Lines.{From_root, Ask, Drop, Insert}
use Rattle.at_model.specs.Run.{Int, Truth}
use Rattle.at_model.specs.Run as run
use Rattle.at_model.specs.Meaning.{Outcomes, Finds, Faults}
use Rattle.at_model.specs.Samples.{of_node}
use Rattle.at_model.specs.SampleLines.{says, plain_step, list_step}
use Rattle.at_model.proofs.of_machines.Played.{ends, line, question}
use Rattle.at_model.proofs.session_cases.a_list_is_edited.Goals as goal

pub returns-clause-inserted : goal.returns-clause-inserted
unfolding chain digits reserved_words
returns-clause-inserted c =
    question (says (Ask (From_root (plain_step "Block" ∷ list_step "Stmt" 1 ∷ plain_step "Expr" ∷ [])) (codes "value") ([]))) (Outcomes (Finds (Int (pos 3)))) refl refl refl (9, refl) refl
    (line (says (Insert (From_root (plain_step "Block" ∷ [])) (codes "Stmt") 0 (term.Node (codes "Decl")
    (term.cell (term.Holds (tree.Text (codes "y"))) (term.cell term.Empty term.no_cells))))) refl refl refl refl
    (question (says (Ask (From_root (plain_step "Block" ∷ list_step "Stmt" 2 ∷ plain_step "Expr" ∷ [])) (codes "value") ([]))) (Outcomes (Finds (Int (pos 3)))) refl refl refl (9, refl) refl ends))

pub returns-clause-dropped : goal.returns-clause-dropped
unfolding chain digits reserved_words
returns-clause-dropped c =
    line (says (Drop (From_root (plain_step "Block" ∷ list_step "Stmt" 0 ∷ [])))) refl refl refl refl
    (question (says (Ask (From_root (plain_step "Block" ∷ list_step "Stmt" 0 ∷ plain_step "Expr" ∷ plain_step "Left" ∷
    [])) (codes "value") ([]))) (Outcomes (Faults run.Null (of_node ((0, 0) ∷ (0, 0) ∷ (0, 0) ∷ (0, 0) ∷ []) 5)))
    refl refl refl (9, refl) refl ends)

pub returns-clause-replaced : goal.returns-clause-replaced
unfolding chain digits reserved_words
returns-clause-replaced c =
    question (says (Ask (From_root (plain_step "Block" ∷ list_step "Stmt" 1 ∷ plain_step "Expr" ∷ [])) (codes "value") ([]))) (Outcomes (Finds (Int (pos 3)))) refl refl refl (9, refl) refl
    (line (says (Drop (From_root (plain_step "Block" ∷ list_step "Stmt" 0 ∷ [])))) refl refl refl refl
    (line (says (Insert (From_root (plain_step "Block" ∷ [])) (codes "Stmt") 0
    (term.Node (codes "Decl") (term.cell (term.Holds (tree.Text (codes "x"))) (term.cell (term.One (term.Node
    (codes "Num") (term.cell (term.Holds (tree.Int (pos 9))) term.no_cells))) term.no_cells))))) refl refl refl refl
    (question (says (Ask (From_root (plain_step "Block" ∷ list_step "Stmt" 1 ∷ plain_step "Expr" ∷ [])) (codes "value") ([]))) (Outcomes (Finds (Int (pos 11)))) refl refl refl (9, refl) refl ends)))

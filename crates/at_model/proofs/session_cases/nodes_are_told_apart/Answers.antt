use Rattle.std.proofs.Common.{[], ◌∷◌, pos, true, false, codes, refl}
use Rattle.std.specs.Fmt.{digits}
use Rattle.at_model.specs.Classes.{chain}
use Rattle.at_model.specs.Names.{reserved_words}
use Rattle.at_model.specs.Trees as tree
use Rattle.at_model.specs.Terms as term
use Rattle.at_model.specs.Lines.{From_root, Ask, Set}
use Rattle.at_model.specs.Run.{Truth}
use Rattle.at_model.specs.Meaning.{Outcomes, Finds}
use Rattle.at_model.specs.SampleLines.{says, plain_step, list_step}
use Rattle.at_model.proofs.of_machines.Played.{ends, line, question}
use Rattle.at_model.proofs.session_cases.nodes_are_told_apart.Goals as goal

pub returns : goal.returns
unfolding chain digits reserved_words
returns c =
    line (says (Set (From_root (plain_step "Block" ∷ list_step "Stmt" 1 ∷ plain_step "Expr" ∷ [])) (term.Node (codes
    "Add") (term.cell (term.One (term.Node (codes "Num") (term.cell (term.Holds (tree.Int (pos 1))) term.no_cells)))
    (term.cell (term.One (term.Node (codes "Num") (term.cell (term.Holds (tree.Int (pos 1))) term.no_cells)))
    term.no_cells))))) refl refl refl refl
    (question (says (Ask (From_root (plain_step "Block" ∷ list_step "Stmt" 1 ∷ plain_step "Expr" ∷ [])) (codes "same") ([]))) (Outcomes (Finds (Truth false))) refl refl refl (9, refl) refl
    (question (says (Ask (From_root (plain_step "Block" ∷ list_step "Stmt" 1 ∷ plain_step "Expr" ∷ [])) (codes "alike") ([]))) (Outcomes (Finds (Truth true))) refl refl refl (9, refl) refl ends))

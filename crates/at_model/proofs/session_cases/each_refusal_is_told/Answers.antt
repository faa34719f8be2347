use Rattle.std.proofs.Common.{[], ◌∷◌, None, pos, codes, refl}
use Rattle.std.specs.Fmt.{digits}
use Rattle.at_model.specs.Classes.{chain}
use Rattle.at_model.specs.Names.{reserved_words}
use Rattle.at_model.specs.Trees as tree
use Rattle.at_model.specs.Terms as term
use Rattle.at_model.specs.Lines.{From_root, Text, Ask, Set, Insert, Token, Show}
use Rattle.at_model.specs.Run.{Int, Truth}
use Rattle.at_model.specs.Run as run
use Rattle.at_model.specs.Meaning.{Outcomes, Finds}
use Rattle.at_model.specs.SampleLines.{says, plain_step, list_step}
use Rattle.at_model.proofs.of_machines.Played.{ends, line, question}
use Rattle.at_model.proofs.session_cases.each_refusal_is_told.Goals as goal

pub returns : goal.returns
unfolding chain digits reserved_words
returns c =
    line (says (Ask (From_root ([])) (codes "value") ([]))) refl refl refl refl
    (line (says (Ask (From_root (plain_step "Block" ∷ [])) (codes "local") ([]))) refl refl refl refl
    (line (says (Ask (From_root (plain_step "Block" ∷ list_step "Stmt" 5 ∷ [])) (codes "value") ([]))) refl refl refl refl
    (line (says (Show (From_root (plain_step "Block" ∷ plain_step "Stmt" ∷ [])))) refl refl refl refl
    (line (says (Insert (From_root (plain_step "Block" ∷ [])) (codes "Init") 0 (term.Node (codes "Num") (term.cell (term.Holds (tree.Int (pos 1))) term.no_cells)))) refl refl refl refl
    (line (says (Insert (From_root (plain_step "Block" ∷ [])) (codes "Stmt") 3 (term.Node (codes "Decl")
    (term.cell (term.Holds (tree.Text (codes "z"))) (term.cell term.Empty term.no_cells))))) refl refl refl refl
    (line (says (Set (From_root (plain_step "Block" ∷ list_step "Stmt" 0 ∷ [])) (term.Node (codes "Expr") term.no_cells))) refl refl refl refl
    (line (says (Token (From_root (plain_step "Block" ∷ list_step "Stmt" 0 ∷ [])) (codes "ID") (tree.Int (pos 5)))) refl refl refl refl
    (question (says (Ask (From_root (plain_step "Block" ∷ [])) (codes "local") (Text (codes "q") ∷ []))) (Outcomes (Finds (run.Ref None))) refl refl refl (9, refl) refl ends))))))))

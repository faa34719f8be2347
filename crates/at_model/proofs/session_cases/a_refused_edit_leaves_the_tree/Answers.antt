use Rattle.std.proofs.Common.{[], ◌∷◌, pos, codes, refl}
use Rattle.std.specs.Fmt.{digits}
use Rattle.at_model.specs.Classes.{chain}
use Rattle.at_model.specs.Names.{reserved_words}
use Rattle.at_model.specs.Trees as tree
use Rattle.at_model.specs.Terms as term
use Rattle.at_model.specs.Lines.{From_root, Set, Put, Drop, Insert, Show}
use Rattle.at_model.specs.SampleLines.{says, plain_step, list_step}
use Rattle.at_model.proofs.of_machines.Played.{ends, line}
use Rattle.at_model.proofs.session_cases.a_refused_edit_leaves_the_tree.Goals as goal

pub returns-clause-fit : goal.returns-clause-fit
unfolding chain digits reserved_words
returns-clause-fit c =
    line (says (Set (From_root (plain_step "Block" ∷ [])) (term.Node (codes "Num") (term.cell (term.Holds (tree.Int (pos 1))) term.no_cells)))) refl refl refl refl
    (line (says (Show (From_root ([])))) refl refl refl refl
    (line (says (Insert (From_root (plain_step "Block" ∷ [])) (codes "Stmt") 0 (term.Node (codes "Num") (term.cell (term.Holds (tree.Int (pos 1))) term.no_cells)))) refl refl refl refl
    (line (says (Show (From_root ([])))) refl refl refl refl ends)))

pub returns-clause-fixed : goal.returns-clause-fixed
unfolding chain digits reserved_words
returns-clause-fixed c =
    line (says (Drop (From_root (plain_step "Block" ∷ [])))) refl refl refl refl
    (line (says (Show (From_root ([])))) refl refl refl refl ends)

pub returns-clause-each : goal.returns-clause-each
unfolding chain digits reserved_words
returns-clause-each c =
    line (says (Insert (From_root (plain_step "Block" ∷ [])) (codes "Stmt") 0 (term.Node (codes "Num") (term.cell (term.Holds (tree.Int (pos 1))) term.no_cells)))) refl refl refl refl
    (line (says (Drop (From_root (plain_step "Block" ∷ [])))) refl refl refl refl
    (line (says (Put (From_root (plain_step "Block" ∷ list_step "Stmt" 0 ∷ [])) (codes "Init") (term.Node (codes "Num") (term.cell (term.Holds (tree.Int (pos 1))) term.no_cells)))) refl refl refl refl
    (line (says (Insert (From_root (plain_step "Block" ∷ [])) (codes "Stmt") 3 (term.Node (codes "Block") (term.cell (term.Many term.no_terms) term.no_cells)))) refl refl refl refl
    (line (says (Show (From_root ([])))) refl refl refl refl ends))))

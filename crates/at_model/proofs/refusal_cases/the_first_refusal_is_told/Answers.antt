use Rattle.std.proofs.Common.{[], ◌∷◌, Some, pos, codes, refl}
use Rattle.std.specs.Fmt.{digits}
use Rattle.at_model.specs.Classes.{chain}
use Rattle.at_model.specs.Names.{reserved_words}
use Rattle.at_model.specs.Trees as tree
use Rattle.at_model.specs.Terms as term
use Rattle.at_model.specs.Lines.{From_root, From_mark, Ref, Ask, Set, Put, Insert, Token, Show}
use Rattle.at_model.specs.SampleLines.{says, plain_step, list_step}
use Rattle.at_model.proofs.of_machines.Played.{ends, line}
use Rattle.at_model.proofs.refusal_cases.the_first_refusal_is_told.Goals as goal

pub returns-clause-stale : goal.returns-clause-stale
unfolding chain digits reserved_words
returns-clause-stale c =
    line (record { session = 0; expected = Some 5; command = Ask (From_mark (codes "u") ([])) (codes "value") ([]) }) refl refl refl refl
    (line (record { session = 0; expected = Some 5; command = Show (From_root (plain_step "Nix" ∷ [])) }) refl refl refl refl ends)

pub returns-clause-mark : goal.returns-clause-mark
unfolding chain digits reserved_words
returns-clause-mark c =
    line (says (Ask (From_root (plain_step "Nix" ∷ [])) (codes "value") (Ref (From_mark (codes "u") ([])) ∷ []))) refl refl refl refl ends

pub returns-clause-path : goal.returns-clause-path
unfolding chain digits reserved_words
returns-clause-path c =
    line (says (Ask (From_root (plain_step "Nix" ∷ [])) (codes "nosuch") ([]))) refl refl refl refl
    (line (says (Insert (From_root (plain_step "Nix" ∷ [])) (codes "Init") 0 (term.Node (codes "Expr") term.no_cells))) refl refl refl refl ends)

pub returns-clause-component : goal.returns-clause-component
unfolding chain digits reserved_words
returns-clause-component c =
    line (says (Insert (From_root (plain_step "Block" ∷ [])) (codes "Init") 0 (term.Node (codes "Expr") term.no_cells))) refl refl refl refl
    (line (says (Token (From_root (plain_step "Block" ∷ list_step "Stmt" 1 ∷ [])) (codes "ID") (tree.Int (pos 5)))) refl refl refl refl ends)

pub returns-clause-class : goal.returns-clause-class
unfolding chain digits reserved_words
returns-clause-class c =
    line (says (Set (From_root (plain_step "Block" ∷ list_step "Stmt" 0 ∷ [])) (term.Node (codes "Num")
    (term.cell (term.One (term.Node (codes "Expr") term.no_cells)) term.no_cells)))) refl refl refl refl
    (line (says (Insert (From_root (plain_step "Block" ∷ [])) (codes "Stmt") 9 (term.Node (codes "Expr") term.no_cells))) refl refl refl refl ends)

pub returns-clause-fit : goal.returns-clause-fit
unfolding chain digits reserved_words
returns-clause-fit c =
    line (says (Insert (From_root (plain_step "Block" ∷ [])) (codes "Stmt") 9 (term.Node (codes "Num") (term.cell (term.Holds (tree.Int (pos 1))) term.no_cells)))) refl refl refl refl
    (line (says (Put (From_root (plain_step "Block" ∷ list_step "Stmt" 0 ∷ [])) (codes "Init")
    (term.Node (codes "Block") (term.cell (term.Many term.no_terms) term.no_cells)))) refl refl refl refl ends)

pub returns-clause-attribute : goal.returns-clause-attribute
unfolding chain digits reserved_words
returns-clause-attribute c =
    line (says (Ask (From_root ([])) (codes "local") ([]))) refl refl refl refl ends

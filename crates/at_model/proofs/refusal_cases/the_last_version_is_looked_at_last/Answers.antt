use Rattle.std.proofs.Common.{[], ◌∷◌, Some, pos, codes, refl}
use Rattle.std.specs.Fmt.{digits}
use Rattle.at_model.specs.Classes.{chain}
use Rattle.at_model.specs.Names.{reserved_words}
use Rattle.at_model.specs.Trees as tree
use Rattle.at_model.specs.Terms as term
use Rattle.at_model.specs.Lines.{From_root, Set, Put, Drop, Insert, Token, Mark, Version}
use Rattle.at_model.specs.SampleLines.{says, plain_step, list_step}
use Rattle.at_model.proofs.of_machines.Played.{ends, line}
use Rattle.at_model.proofs.refusal_cases.the_last_version_is_looked_at_last.Goals as goal

pub returns : goal.returns
unfolding chain digits reserved_words
returns c =
    line (says (Drop (From_root (plain_step "Block" ∷ list_step "Stmt" 0 ∷ [])))) refl refl refl refl
    (line (says (Token (From_root (plain_step "Block" ∷ list_step "Stmt" 0 ∷ [])) (codes "ID") (tree.Text (codes "x")))) refl refl refl refl
    (line (record { session = 0; expected = Some 0; command = Drop (From_root (plain_step "Block" ∷ list_step "Stmt" 0 ∷ [])) }) refl refl refl refl
    (line (says (Insert (From_root (plain_step "Block" ∷ [])) (codes "Init") 0 (term.Node (codes "Num") (term.cell (term.Holds (tree.Int (pos 1))) term.no_cells)))) refl refl refl refl
    (line (says (Set (From_root (plain_step "Block" ∷ list_step "Stmt" 0 ∷ [])) (term.Node (codes "Expr") term.no_cells))) refl refl refl refl
    (line (says (Set (From_root (plain_step "Block" ∷ [])) (term.Node (codes "Num") (term.cell (term.Holds (tree.Int (pos 1))) term.no_cells)))) refl refl refl refl
    (line (says (Insert (From_root (plain_step "Block" ∷ [])) (codes "Stmt") 3 (term.Node (codes "Decl")
    (term.cell (term.Holds (tree.Text (codes "z"))) (term.cell term.Empty term.no_cells))))) refl refl refl refl
    (line (says (Put (From_root (plain_step "Block" ∷ list_step "Stmt" 0 ∷ [])) (codes "Init") (term.Node (codes "Num") (term.cell (term.Holds (tree.Int (pos 8))) term.no_cells)))) refl refl refl refl
    (line (says (Drop (From_root (plain_step "Block" ∷ [])))) refl refl refl refl
    (line (says (Mark (codes "u") (From_root ([])))) refl refl refl refl
    (line (record { session = 0; expected = Some 18446744073709551615; command = Version }) refl refl refl refl ends))))))))))

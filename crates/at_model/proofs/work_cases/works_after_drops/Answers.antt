use Rattle.std.proofs.Common.{ℕ, [], ◌∷◌, pos, codes, refl}
use Rattle.std.specs.Fmt.{digits}
use Rattle.at_model.specs.Classes.{chain}
use Rattle.at_model.specs.Names.{reserved_words}
use Rattle.at_model.specs.Trees as tree
use Rattle.at_model.specs.Terms as term
use Rattle.at_model.specs.Lines.{Line, From_root, Ask, Drop, Insert}
use Rattle.at_model.specs.Samples.{calc}
use Rattle.at_model.specs.SampleLines.{says, plain_step, list_step, block_path, statement_path, num_term, opened}
use Rattle.at_model.proofs.Computed.{works}
use Rattle.at_model.proofs.work_cases.works_after_drops.Goals as goal

-- the question for the value of what is printed
abbrev sum_at : ℕ → Line
sum_at i = says (Ask (From_root (plain_step "Block" ∷ list_step "Stmt" i ∷ plain_step "Expr" ∷ [])) (codes "value") [])

pub returns-clause-fault : goal.returns-clause-fault
unfolding chain digits reserved_words
returns-clause-fault c = works calc 9 refl opened (says (Drop (From_root (statement_path 0))) ∷ says
    (Ask (From_root (plain_step "Block" ∷ list_step "Stmt" 0 ∷ plain_step "Expr" ∷ plain_step "Left" ∷ []))
    (codes "value") []) ∷ []) _ refl refl

pub returns-clause-replaced : goal.returns-clause-replaced
unfolding chain digits reserved_words
returns-clause-replaced c = works calc 9 refl opened (sum_at 1 ∷ says (Drop (From_root (statement_path 0))) ∷ says (Insert
    (From_root block_path) (codes "Stmt") 0 (term.Node (codes "Decl") (term.cell (term.Holds (tree.Text (codes "x")))
    (term.cell (term.One (num_term (pos 9))) term.no_cells)))) ∷ sum_at 1 ∷ []) _ refl refl

pub returns-clause-index : goal.returns-clause-index
unfolding chain digits reserved_words
returns-clause-index c = works calc 9 refl opened (says (Ask (From_root (statement_path 1)) (codes "pos") []) ∷ says
    (Drop (From_root (statement_path 0))) ∷ says (Ask (From_root (statement_path 0)) (codes "pos") []) ∷ says
    (Ask (From_root block_path) (codes "pos") []) ∷ []) _ refl refl

use Rattle.std.proofs.Common.{ℕ, [], ◌∷◌, pos, codes, refl}
use Rattle.std.specs.Fmt.{digits}
use Rattle.at_model.specs.Classes.{chain}
use Rattle.at_model.specs.Names.{reserved_words}
use Rattle.at_model.specs.Trees as tree
use Rattle.at_model.specs.Lines.{Line, From_root, Ask, Drop, Insert, Put, Token}
use Rattle.at_model.specs.Samples.{calc}
use Rattle.at_model.specs.SampleLines.{says, plain_step, list_step, block_path, statement_path, left_path, decl_y_term, num_term, opened}
use Rattle.at_model.proofs.Computed.{works}
use Rattle.at_model.proofs.work_cases.works_of_values.Goals as goal

-- the question for the value of what is printed
abbrev sum_at : ℕ → Line
sum_at i = says (Ask (From_root (plain_step "Block" ∷ list_step "Stmt" i ∷ plain_step "Expr" ∷ [])) (codes "value") [])

pub returns-clause-again : goal.returns-clause-again
unfolding chain digits reserved_words
returns-clause-again c = works calc 9 refl opened (sum_at 1 ∷ sum_at 1 ∷ []) _ refl refl

pub returns-clause-decl : goal.returns-clause-decl
unfolding chain digits reserved_words
returns-clause-decl c = works calc 9 refl opened (says (Ask (From_root left_path) (codes "decl") []) ∷ sum_at 1 ∷ []) _ refl refl

pub returns-clause-token : goal.returns-clause-token
unfolding chain digits reserved_words
returns-clause-token c = works calc 9 refl opened (sum_at 1 ∷ says (Token (From_root (plain_step "Block" ∷ list_step "Stmt"
    1 ∷ plain_step "Expr" ∷ plain_step "Right" ∷ [])) (codes "Value") (tree.Int (pos 5))) ∷ sum_at 1 ∷ []) _ refl refl

pub returns-clause-inserted : goal.returns-clause-inserted
unfolding chain digits reserved_words
returns-clause-inserted c = works calc 9 refl opened (sum_at 1 ∷ says (Insert (From_root block_path) (codes "Stmt") 0 decl_y_term) ∷ sum_at 2 ∷ []) _ refl refl

pub returns-clause-optional : goal.returns-clause-optional
unfolding chain digits reserved_words
returns-clause-optional c = works calc 9 refl opened
    (sum_at 1 ∷ says (Drop (From_root (plain_step "Block" ∷ list_step "Stmt" 0 ∷ plain_step "Init" ∷ []))) ∷ sum_at
    1 ∷ says (Put (From_root (statement_path 0)) (codes "Init") (num_term (pos 7))) ∷ sum_at 1 ∷ says
    (Put (From_root (statement_path 0)) (codes "Init") (num_term (pos 8))) ∷ []) _ refl refl

pub returns-clause-declared : goal.returns-clause-declared
unfolding chain digits reserved_words
returns-clause-declared c = works calc 9 refl opened (sum_at 1 ∷ says (Token (From_root (plain_step "Block" ∷ list_step
    "Stmt" 0 ∷ plain_step "Init" ∷ [])) (codes "Value") (tree.Int (pos 4))) ∷ sum_at 1 ∷ []) _ refl refl

pub returns-clause-name : goal.returns-clause-name
unfolding chain digits reserved_words
returns-clause-name c = works calc 9 refl opened (sum_at 1 ∷ says (Token (From_root (statement_path 0)) (codes "ID") (tree.Text (codes "y"))) ∷ sum_at 1 ∷ []) _ refl refl

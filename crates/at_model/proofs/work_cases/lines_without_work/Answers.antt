use Rattle.std.proofs.Common.{[], ◌∷◌, pos, codes, refl, Some}
use Rattle.std.specs.Fmt.{digits}
use Rattle.at_model.specs.Classes.{chain}
use Rattle.at_model.specs.Names.{reserved_words}
use Rattle.at_model.specs.Trees as tree
use Rattle.at_model.specs.Paths.{Path}
use Rattle.at_model.specs.Lines.{Line, Place, From_root, From_mark, Ask, Drop, Mark, Show, Token}
use Rattle.at_model.specs.Samples.{calc, sum_rules}
use Rattle.at_model.specs.SampleLines.{says, plain_step, list_step, block_path, opened, sum_opened}
use Rattle.at_model.proofs.Computed.{works}
use Rattle.at_model.proofs.work_cases.lines_without_work.Goals as goal

abbrev sum_path : Path
sum_path = plain_step "Block" ∷ list_step "Stmt" 1 ∷ plain_step "Expr" ∷ []

abbrev value_of : Place → Line
value_of place = says (Ask place (codes "value") [])

pub returns-clause-refused : goal.returns-clause-refused
unfolding chain digits reserved_words
returns-clause-refused c = works calc 9 refl opened
    (value_of (From_root sum_path) ∷ record (value_of (From_root sum_path)) { expected = Some 5 } ∷ value_of
    (From_root []) ∷ says (Drop (From_root block_path)) ∷ says (Mark (codes "u") (From_root sum_path)) ∷ says
    (Show (From_mark (codes "u") [])) ∷ value_of (From_mark (codes "u") []) ∷ []) _ refl refl

pub returns-clause-not_lazy : goal.returns-clause-not_lazy
unfolding chain digits reserved_words
returns-clause-not_lazy c = works sum_rules 9 refl sum_opened (says (Ask (From_root []) (codes "total") []) ∷ says
    (Token (From_root (plain_step "Right" ∷ [])) (codes "Value") (tree.Int (pos 5))) ∷ says
    (Ask (From_root []) (codes "total") []) ∷ []) _ refl refl

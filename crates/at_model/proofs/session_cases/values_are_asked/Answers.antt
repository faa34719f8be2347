use Rattle.std.proofs.Common.{[], ◌∷◌, Some, pos, codes, refl}
use Rattle.std.specs.Fmt.{digits}
use Rattle.at_model.specs.Classes.{chain}
use Rattle.at_model.specs.Names.{reserved_words}
use Rattle.at_model.specs.Lines.{From_root, Ask}
use Rattle.at_model.specs.Run.{Int, Truth}
use Rattle.at_model.specs.Run as run
use Rattle.at_model.specs.Meaning.{Outcomes, Finds}
use Rattle.at_model.specs.SampleLines.{says, plain_step, list_step}
use Rattle.at_model.proofs.of_machines.Played.{ends, question}
use Rattle.at_model.proofs.session_cases.values_are_asked.Goals as goal

pub returns-clause-value : goal.returns-clause-value
unfolding chain digits reserved_words
returns-clause-value c =
    question (says (Ask (From_root (plain_step "Block" ∷ list_step "Stmt" 1 ∷ plain_step "Expr" ∷ [])) (codes "value") ([]))) (Outcomes (Finds (Int (pos 3)))) refl refl refl (9, refl) refl ends

pub returns-clause-decl : goal.returns-clause-decl
unfolding chain digits reserved_words
returns-clause-decl c =
    question (says (Ask (From_root
    (plain_step "Block" ∷ list_step "Stmt" 1 ∷ plain_step "Expr" ∷ plain_step "Left" ∷ [])) (codes "decl") ([])))
    (Outcomes (Finds (run.Ref (Some ((0, 0) ∷ (0, 0) ∷ []))))) refl refl refl (9, refl) refl ends

pub returns-clause-twice : goal.returns-clause-twice
unfolding chain digits reserved_words
returns-clause-twice c =
    question (says (Ask (From_root (plain_step "Block" ∷ list_step "Stmt" 1 ∷ plain_step "Expr" ∷ [])) (codes "value") ([]))) (Outcomes (Finds (Int (pos 3)))) refl refl refl (9, refl) refl
    (question (says (Ask (From_root (plain_step "Block" ∷ list_step "Stmt" 1 ∷ plain_step "Expr" ∷ [])) (codes "value") ([]))) (Outcomes (Finds (Int (pos 3)))) refl refl refl (9, refl) refl ends)

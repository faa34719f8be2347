use Rattle.std.proofs.Common.{[], ◌∷◌, true, false, codes, refl}
use Rattle.std.specs.Fmt.{digits}
use Rattle.at_model.specs.Classes.{chain}
use Rattle.at_model.specs.Names.{reserved_words}
use Rattle.at_model.specs.Lines.{From_root, Text, Ref, Null, Ask}
use Rattle.at_model.specs.Run.{Truth}
use Rattle.at_model.specs.Meaning.{Outcomes, Finds}
use Rattle.at_model.specs.SampleLines.{says, plain_step, list_step}
use Rattle.at_model.proofs.of_machines.Played.{ends, line, question}
use Rattle.at_model.proofs.refusal_cases.a_parameter_takes_a_class.Goals as goal

pub returns : goal.returns
unfolding chain digits reserved_words
returns c =
    question (says (Ask (From_root (plain_step "Block" ∷ list_step "Stmt" 1 ∷ plain_step "Expr" ∷ [])) (codes "begins")
    (Ref (From_root (plain_step "Block" ∷ list_step "Stmt" 1 ∷ plain_step "Expr" ∷ plain_step "Left" ∷ [])) ∷ [])))
    (Outcomes (Finds (Truth true))) refl refl refl (9, refl) refl
    (question (says (Ask (From_root (plain_step "Block" ∷ list_step "Stmt" 1 ∷ plain_step "Expr" ∷ [])) (codes "begins")
    (Ref (From_root (plain_step "Block" ∷ list_step "Stmt" 1 ∷ plain_step "Expr" ∷ plain_step "Right" ∷ [])) ∷ [])))
    (Outcomes (Finds (Truth false))) refl refl refl (9, refl) refl
    (question (says (Ask (From_root (plain_step "Block" ∷ list_step "Stmt" 1 ∷ plain_step "Expr" ∷ [])) (codes "begins") (Null ∷ []))) (Outcomes (Finds (Truth false))) refl refl refl (9, refl) refl
    (line (says (Ask (From_root (plain_step "Block" ∷ list_step "Stmt" 1 ∷ plain_step "Expr" ∷ [])) (codes "begins")
    (Ref (From_root (plain_step "Block" ∷ list_step "Stmt" 0 ∷ [])) ∷ []))) refl refl refl refl
    (line (says (Ask (From_root (plain_step "Block" ∷ list_step "Stmt" 1 ∷ plain_step "Expr" ∷ [])) (codes "begins") (Text (codes "x") ∷ []))) refl refl refl refl
    (line (says (Ask (From_root (plain_step "Block" ∷ list_step "Stmt" 1 ∷ plain_step "Expr" ∷ [])) (codes "begins") ([]))) refl refl refl refl
    (line (says (Ask (From_root (plain_step "Block" ∷ list_step "Stmt" 1 ∷ plain_step "Expr" ∷ [])) (codes "begins") (Null ∷ Null ∷ []))) refl refl refl refl ends))))))

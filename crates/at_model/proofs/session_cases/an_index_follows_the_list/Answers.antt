use Rattle.std.proofs.Common.{[], ◌∷◌, pos, negsuc, codes, refl}
use Rattle.std.specs.Fmt.{digits}
use Rattle.at_model.specs.Classes.{chain}
use Rattle.at_model.specs.Names.{reserved_words}
use Rattle.at_model.specs.Lines.{From_root, Ask, Drop}
use Rattle.at_model.specs.Run.{Int}
use Rattle.at_model.specs.Meaning.{Outcomes, Finds}
use Rattle.at_model.specs.SampleLines.{says, plain_step, list_step}
use Rattle.at_model.proofs.of_machines.Played.{ends, line, question}
use Rattle.at_model.proofs.session_cases.an_index_follows_the_list.Goals as goal

pub returns : goal.returns
unfolding chain digits reserved_words
returns c =
    question (says (Ask (From_root (plain_step "Block" ∷ list_step "Stmt" 1 ∷ [])) (codes "pos") ([]))) (Outcomes (Finds (Int (pos 1)))) refl refl refl (9, refl) refl
    (line (says (Drop (From_root (plain_step "Block" ∷ list_step "Stmt" 0 ∷ [])))) refl refl refl refl
    (question (says (Ask (From_root (plain_step "Block" ∷ list_step "Stmt" 0 ∷ [])) (codes "pos") ([]))) (Outcomes (Finds (Int (pos 0)))) refl refl refl (9, refl) refl
    (question (says (Ask (From_root (plain_step "Block" ∷ [])) (codes "pos") ([]))) (Outcomes (Finds (Int (negsuc 0)))) refl refl refl (9, refl) refl ends)))

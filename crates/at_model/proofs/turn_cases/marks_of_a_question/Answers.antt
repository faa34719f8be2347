use Rattle.std.proofs.Common.{ℕ, List, [], ◌∷◌, Some, codes, refl}
use Rattle.std.specs.Fmt.{digits}
use Rattle.at_model.specs.Classes.{chain}
use Rattle.at_model.specs.Names.{reserved_words}
use Rattle.at_model.specs.Lines.{Line, From_root, From_mark, Drop, Insert, Mark, Unmark, Post, Wait}
use Rattle.at_model.specs.Replies.{Shows, At, Refused}
use Rattle.at_model.specs.Replies as code
use Rattle.at_model.specs.Run.{Ref}
use Rattle.at_model.specs.Meaning.{Outcomes, Finds}
use Rattle.at_model.specs.Machine.{Marked, Posted}
use Rattle.at_model.specs.Samples.{left_of, statement}
use Rattle.at_model.specs.SampleLines.{says, mark, block_path, left_path, statement_path, decl_y_term}
use Rattle.at_model.proofs.of_machines.Played.{ends, line, waiting_for, answering}
use Rattle.at_model.proofs.turn_cases.marks_of_a_question.Goals as goal

abbrev marking : Line
marking = says (Mark (codes "u") (From_root left_path))

abbrev asking : Line
asking = says (Post (From_mark (codes "u") []) (codes "decl") [])

-- the question with these marks, after so many turns
abbrev declaration : List Marked → ℕ → Posted
declaration marks turns = record { number = 1; session = 0; place = From_mark (codes "u") []; attribute = codes "decl"; arguments = []; marks = marks; turns = turns }

pub returns-clause-gone : goal.returns-clause-gone
unfolding chain digits reserved_words
returns-clause-gone c =
    line marking refl refl refl refl
    (line asking refl refl refl refl
    (answering (says (Drop (From_root (statement_path 1)))) (declaration [] 0) (Refused code.Mark) refl refl refl refl refl refl refl ends))

pub returns-clause-forgotten : goal.returns-clause-forgotten
unfolding chain digits reserved_words
returns-clause-forgotten c =
    line marking refl refl refl refl
    (line asking refl refl refl refl
    (line (says (Unmark (codes "u"))) refl refl refl refl
    (waiting_for (says (Wait 1)) (declaration (mark 0 "u" (left_of 1) ∷ []) 2) (Outcomes (Finds (Ref (Some (statement 0))))) refl refl refl refl refl (9, refl) refl ends)))

pub returns-clause-carried : goal.returns-clause-carried
unfolding chain digits reserved_words
returns-clause-carried c =
    line marking refl refl refl refl
    (line asking refl refl refl refl
    (line (says (Unmark (codes "u"))) refl refl refl refl
    (line (says (Mark (codes "u") (From_root block_path))) refl refl refl refl
    (line (says (Insert (From_root block_path) (codes "Stmt") 0 decl_y_term)) refl refl refl refl
    (waiting_for (says (Wait 1)) (declaration (mark 0 "u" (left_of 2) ∷ []) 1) (Outcomes (Finds (Ref (Some (statement 1))))) refl refl refl refl refl (9, refl) refl ends)))))

pub returns-clause-none : goal.returns-clause-none
unfolding chain digits reserved_words
returns-clause-none c =
    line (says (Post (From_mark (codes "v") []) (codes "decl") [])) refl refl refl refl
    (line (says (Wait 7)) refl refl refl refl ends)

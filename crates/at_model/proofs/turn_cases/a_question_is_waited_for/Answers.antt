use Rattle.std.proofs.Common.{◌++◌, [], ◌∷◌, None, Some, pos, codes, refl}
use Rattle.std.specs.Fmt.{digits}
use Rattle.at_model.specs.Classes.{chain}
use Rattle.at_model.specs.Names.{reserved_words}
use Rattle.at_model.specs.Trees as tree
use Rattle.at_model.specs.Lines.{Line, From_root, Post, Token, Wait}
use Rattle.at_model.specs.Run.{Int, Ref}
use Rattle.at_model.specs.Meaning.{Outcomes, Finds}
use Rattle.at_model.specs.Machine.{Posted}
use Rattle.at_model.specs.Samples.{statement}
use Rattle.at_model.specs.SampleLines.{says, plain_step, printed_path, left_path}
use Rattle.at_model.specs.SampleSessions.{posting, value_posted}
use Rattle.at_model.proofs.of_machines.Played.{ends, line, waiting_for}
use Rattle.at_model.proofs.turn_cases.a_question_is_waited_for.Goals as goal

abbrev edit : Line
edit = record { session = 1; expected = None; command = Token (From_root (printed_path ++ plain_step "Right" ∷ [])) (codes "Value") (tree.Int (pos 5)) }

abbrev declaration : Posted
declaration = record { number = 2; session = 0; place = From_root left_path; attribute = codes "decl"; arguments = []; marks = []; turns = 0 }

pub returns-clause-value : goal.returns-clause-value
unfolding chain digits reserved_words
returns-clause-value c =
    line (says posting) refl refl refl refl
    (line (record { session = 1; expected = None; command = Wait 1 }) refl refl refl refl
    (waiting_for (says (Wait 1)) (record (value_posted 1) { turns = 2 }) (Outcomes (Finds (Int (pos 3)))) refl refl refl refl refl (9, refl) refl
    (line (says (Wait 1)) refl refl refl refl ends)))

pub returns-clause-edited : goal.returns-clause-edited
unfolding chain digits reserved_words
returns-clause-edited c =
    line (says posting) refl refl refl refl
    (line edit refl refl refl refl
    (waiting_for (says (Wait 1)) (record (value_posted 1) { turns = 1 }) (Outcomes (Finds (Int (pos 6)))) refl refl refl refl refl (9, refl) refl ends))

pub returns-clause-greater : goal.returns-clause-greater
unfolding chain digits reserved_words
returns-clause-greater c =
    line (says posting) refl refl refl refl
    (line (says (Post (From_root left_path) (codes "decl") [])) refl refl refl refl
    (waiting_for (says (Wait 2)) declaration (Outcomes (Finds (Ref (Some (statement 0))))) refl refl refl refl refl (9, refl) refl
    (waiting_for (says (Wait 1)) (record (value_posted 1) { turns = 3 }) (Outcomes (Finds (Int (pos 3)))) refl refl refl refl refl (9, refl) refl ends)))

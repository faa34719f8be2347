use Rattle.std.proofs.Common.{[], ◌∷◌, None, Some, pos, codes, refl}
use Rattle.std.specs.Fmt.{digits}
use Rattle.at_model.specs.Classes.{chain}
use Rattle.at_model.specs.Names.{reserved_words}
use Rattle.at_model.specs.Lines.{From_root, Null, Drop, Post, Version}
use Rattle.at_model.specs.Replies.{Shows, Plain, At, Circular, Refused}
use Rattle.at_model.specs.Replies as code
use Rattle.at_model.specs.Run.{Int, Ref}
use Rattle.at_model.specs.Meaning.{Outcomes, Finds, Circle}
use Rattle.at_model.specs.Machine.{Posted}
use Rattle.at_model.specs.Samples.{of_node, root, statement}
use Rattle.at_model.specs.SampleLines.{says, printed_path, left_path, statement_path}
use Rattle.at_model.specs.SampleSessions.{posting, value_posted}
use Rattle.at_model.proofs.of_machines.Played.{ends, line, answering, answering_with}
use Rattle.at_model.proofs.SampleCircles.{self_circle}
use Rattle.at_model.proofs.turn_cases.a_question_is_answered_by_a_turn.Goals as goal

abbrev second : Posted
second = record { number = 2; session = 1; place = From_root left_path; attribute = codes "decl"; arguments = []; marks = []; turns = 0 }

pub returns-clause-least : goal.returns-clause-least
unfolding chain digits reserved_words
returns-clause-least c =
    line (says posting) refl refl refl refl
    (answering_with (record { session = 1; expected = None; command = Post (From_root left_path) (codes "decl") [] })
    (record (value_posted 1) { turns = 1 }) (Outcomes (Finds (Int (pos 3)))) refl refl refl refl refl refl
    (9, refl) refl
    (answering_with (says Version) second (Outcomes (Finds (Ref (Some (statement 0))))) refl refl refl refl refl refl (9, refl) refl ends))

pub returns-clause-circle : goal.returns-clause-circle
unfolding chain digits reserved_words
returns-clause-circle c =
    answering_with (says (Post (From_root []) (codes "circ") [])) (record (value_posted 1) {
      place = From_root [];
      attribute = codes "circ";
    }) (Circle (of_node root 9)) refl refl refl refl refl refl self_circle refl ends

pub returns-clause-path : goal.returns-clause-path
unfolding chain digits reserved_words
returns-clause-path c =
    line (says posting) refl refl refl refl
    (answering (says (Drop (From_root (statement_path 0)))) (value_posted 1) (Refused code.Path) refl refl refl refl refl refl refl ends)

pub returns-clause-attribute : goal.returns-clause-attribute
unfolding chain digits reserved_words
returns-clause-attribute c =
    answering (says (Post (From_root []) (codes "nosuch") [])) (record (value_posted 1) {
      place = From_root [];
      attribute = codes "nosuch";
    }) (Refused code.Attribute) refl refl refl refl refl refl refl
    (answering (says (Post (From_root printed_path) (codes "value") (Null ∷ []))) (record (value_posted 2) { arguments = Null ∷ [] }) (Refused code.Arguments) refl refl refl refl refl refl refl ends)

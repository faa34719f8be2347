use Rattle.std.proofs.Common.{Bool, true, false, [], ◌∷◌, Some, pos, codes, refl}
use Rattle.std.specs.Fmt.{digits}
use Rattle.at_model.specs.Classes.{chain}
use Rattle.at_model.specs.Names.{reserved_words}
use Rattle.at_model.specs.Trees as tree
use Rattle.at_model.specs.Replies.{Reply, Form, Opened, Shows, Plain, Memory}
use Rattle.at_model.specs.Run.{Int}
use Rattle.at_model.specs.Meaning.{Outcomes, Finds}
use Rattle.at_model.specs.Machine.{State, Posted, Turns, answers, runs_out, telling, spent, next, end, Outputs, done_reply}
use Rattle.at_model.specs.Samples.{calc, of_node, printed}
use Rattle.at_model.specs.SampleLines.{opened, says}
use Rattle.at_model.specs.SampleSessions.{posting, value_posted, with_questions}
use Rattle.at_model.proofs.of_machines.Played.{answer_by, serves_line, silent_turn, reply_to}
use Rattle.at_model.proofs.turn_cases.outputs_of_questions.Goals as goal

-- the question, after the turn that answered nothing
abbrev waiting : Posted
waiting = record (value_posted 1) { turns = 1 }

-- the machine then, and when it is answered
abbrev waited : State
waited = record (with_questions 1) { posted = waiting ∷ [] }

abbrev left : State
left = record opened { posts = 1 }

-- the line, and the turn that tells this
line_and_turn : (said : Bool × Reply) → Turns calc waited 1 left (Some said) → Outputs calc 1 opened
    (codes "0 post /Block/Stmt:1/Expr value()\n") ((false, reply_to (says posting) (Opened 1)) ∷ said ∷ []) left
unfolding chain digits reserved_words
line_and_turn said turn = record {
  mid = waited;
  front = (false, reply_to (says posting) (Opened 1)) ∷ [];
  runs = next (serves_line calc opened (says posting) (codes "0 post /Block/Stmt:1/Expr value()") (Opened 1) refl refl refl) (silent_turn calc (with_questions 1)) (end waited);
  turns = 1;
  back = said ∷ [];
  drained = telling {limit = 0} waiting refl turn (spent left);
  none_open = refl;
  whole = refl;
}

pub returns-clause-answered : goal.returns-clause-answered
unfolding chain digits reserved_words
returns-clause-answered c =
    let form : Form = Shows (Plain (tree.Int (pos 3))) in
    let said : Bool × Reply = (false, done_reply waited waiting form) in
    record {
      told = (false, reply_to (says posting) (Opened 1)) ∷ said ∷ [];
      outputs = line_and_turn said (answers waiting form refl
          (Outcomes (Finds (Int (pos 3))), answer_by calc refl waited.tree (of_node (printed 1) 5) (Outcomes (Finds (Int (pos 3)))) (9, refl), refl));
      names = refl;
      text_is = refl;
    }

pub returns-clause-memory : goal.returns-clause-memory
unfolding chain digits reserved_words
returns-clause-memory c =
    let said : Bool × Reply = (true, done_reply waited waiting Memory) in
    record { told = (false, reply_to (says posting) (Opened 1)) ∷ said ∷ []; outputs = line_and_turn said (runs_out waiting refl); names = refl; text_is = refl }

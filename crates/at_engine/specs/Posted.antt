-- Questions that are open, as they are held, and what they stand for.
use Rattle.std.specs.Prelude.{◌≡◌, ℕ, Bool, ◌&&◌, nat_eq, List, [], ◌∷◌, filter, length, Option, Some, None, is_some, slice_set, string_bytes}
use Rattle.at_model.specs.Paths.{Node}
use Rattle.at_model.specs.Run.{Instance, Value}
use Rattle.at_model.specs.Run as run
use Rattle.at_model.specs.Instances.{instances}
use Rattle.at_model.specs.Lines.{Argument, Text}
use Rattle.at_model.specs.Machine.{Posted as PostedOf}
use Rattle.at_model.specs.Rules.{Rules}
use Rattle.at_model.specs.Trees.{Tree}
use Rattle.at_model.specs.Turning.{UnderWay, posted}
use Rattle.at_protocol.specs.LineView.{arguments_view, place_view}
use Rattle.at_demand.specs.Turns.{under_way}
use Rattle.at_demand.specs.declared.question.Question.{Question}
use Rattle.at_engine.specs.Marks.{Mark, marks_view}
use Rattle.at_engine.specs.declared.posts.Posted.{Posted}

-- it is the session's question of that number
abbrev pub is_numbered : ℕ → ℕ → Posted → Bool
is_numbered session number p = nat_eq session p.session && nat_eq number p.number

-- how far a question for the instance has come, where it was begun
abbrev pub came_to : Option Question → Instance ℕ → UnderWay ℕ
came_to None i = posted i
came_to (Some q) i = under_way q

-- how many turns that were
abbrev pub turns_given : Option Question → ℕ
turns_given None = 0
turns_given (Some q) = q.turns

-- the question, of marks whose numbers have these paths
abbrev pub posted_view : (ℕ → Option Node) → Posted → PostedOf
posted_view look p = record {
  number = p.number;
  session = p.session;
  place = place_view p.place;
  attribute = string_bytes p.attribute;
  arguments = arguments_view p.arguments.items;
  marks = marks_view look p.marks.items.items;
  turns = turns_given p.question;
}

-- the marks whose nodes are there
abbrev pub live_marks : (ℕ → Option Node) → List Mark → List Mark
live_marks look ms = filter (λ m. is_some (look m.node)) ms

-- The question is the same one, of which nothing is done, and the marks are left whose nodes are there.
pub record IsBegunAnew (look : ℕ → Option Node) (old new : Posted) : Type 0 where
  pub number : new.number ≡ old.number
  pub session : new.session ≡ old.session
  pub place : new.place ≡ old.place
  pub attribute : new.attribute ≡ old.attribute
  pub arguments : new.arguments ≡ old.arguments
  pub marks : new.marks.items.items ≡ live_marks look old.marks.items.items
  pub question : new.question ≡ None

-- The question at the position has begun anew.
pub record IsRenewed (look : ℕ → Option Node) (position : ℕ) (p : Posted) (old new : List Posted) : Type 0 where
  pub again : Posted
  pub anew : IsBegunAnew look p again
  pub items : new ≡ slice_set old position again

-- the texts among the arguments, as values
abbrev pub texts_in : List Argument → List (Value Node)
texts_in [] = []
texts_in (Text bytes ∷ as') = run.Text bytes ∷ texts_in as'
texts_in (a ∷ as') = texts_in as'

-- how many instances stand in the list of all to which the words of a question can lead on that tree
abbrev pub universe_of : Rules → Tree → PostedOf → ℕ
universe_of rules t q = length (instances rules t (texts_in q.arguments))

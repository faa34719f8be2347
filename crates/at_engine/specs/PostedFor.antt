-- A question that is posted, as it is kept at first.
use Rattle.std.specs.Prelude.{◌≡◌, ℕ, List, [], None, string_bytes}
use Rattle.at_model.specs.Lines.{Argument, Place, Post}
use Rattle.at_model.specs.Machine.{marks_used}
use Rattle.at_protocol.specs.LineView.{arguments_view, place_view}
use Rattle.at_engine.specs.Marks.{Mark, Copies}
use Rattle.at_engine.specs.declared.posts.Posted.{Posted}

-- It is the session's question of that number and of these words, with copies of the marks in them. Nothing is done for it.
pub record IsPostedFor (number session : ℕ) (place : Place) (attribute : List ℕ) (arguments : List Argument) (marks : List Mark) (p : Posted) : Type 0 where
  pub is_number : p.number ≡ number
  pub is_session : p.session ≡ session
  pub is_place : place_view p.place ≡ place
  pub is_attribute : string_bytes p.attribute ≡ attribute
  pub are_arguments : arguments_view p.arguments.items ≡ arguments
  pub copies : Copies session (marks_used (Post place attribute arguments)) marks [] p.marks.items.items
  pub is_new : p.question ≡ None

-- What a session that waited is told.
use Rattle.std.specs.Prelude.{◌≡◌, ℕ, Bool, true, false, Some}
use Rattle.at_model.specs.Rules.{Rules}
use Rattle.at_model.specs.Replies.{Reply, Memory}
use Rattle.at_model.specs.Machine.{State, Posted, AnswersPosted, done_reply, numbered, without}

-- The question is no longer open, and nothing else has changed. It is answered as it would have been at once, or for want of memory.
pub record IsWaited (rules : Rules) (number : ℕ) (old new : State) (said : Bool × Reply) : Type 0 where
  pub state : new ≡ without number old
  pub question : Posted
  pub there : numbered old number ≡ Some question
  pub reply : said.1 ≡ done_reply old question said.1.form
  pub told : said.0 ≡ false → AnswersPosted rules old question said.1.form
  pub memory : said.0 ≡ true → said.1.form ≡ Memory

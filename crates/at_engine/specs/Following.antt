-- What a command is told by its verdict, in the words of the program, and in what state it leaves.
use Rattle.std.specs.Prelude.{◌≡◌}
use Rattle.at_model.specs.Rules.{Rules}
use Rattle.at_model.specs.Machine.{State, Verdict, Refuses, Tells, Leaves, Edits, Asks, Posts, Waits, Says, after}
use Rattle.at_model.specs.Replies.{Form}
use Rattle.at_protocol.specs.ReplyView.{IsForm}
use Rattle.at_protocol.specs.Writable.{IsWritable, IsFormShort}
use Rattle.at_protocol.specs.declared.reply.Form.{Form as FormValue}

-- the verdict is done at once: it waits for no turns
abbrev pub IsAtOnce : Verdict → Type 0
IsAtOnce (Refuses refusal) = Unit {0}
IsAtOnce (Tells shown) = Unit {0}
IsAtOnce (Leaves marks) = Unit {0}
IsAtOnce (Edits e t) = Unit {0}
IsAtOnce (Asks q) = Unit {0}
IsAtOnce (Posts q) = Unit {0}
IsAtOnce (Waits number) = ⊥

-- It stands for what the verdict says, it can be written, and what isn't short leaves all as it was.
pub record Follows (rules : Rules) (old : State) (v : Verdict) (value : FormValue) (new : State) : Type 0 where
  pub form : Form
  pub is_form : IsForm value form
  pub says : Says rules old v form
  pub state : new ≡ after old v
  pub writable : IsWritable value
  pub kept : (IsFormShort value → ⊥) → new ≡ old

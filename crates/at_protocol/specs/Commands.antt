-- The text of a command.
use Rattle.std.specs.Prelude.{◌≡◌, ℕ, List, Option}
use Rattle.std.specs.List.{join_with_byte}
use Rattle.at_model.specs.Lines.{Command, Line, IsCommand, Spells, command_words}

pub record IsCommandText (text : List ℕ) (c : Command) : Type 0 where
  pub is_command : IsCommand c
  pub is_text : text ≡ join_with_byte 32 (command_words c)

-- the rest is the text of the command of each line that the bytes spell, and each command of this text makes a line
pub record IsHead (bytes : List ℕ) (session : ℕ) (expected : Option ℕ) (rest : List ℕ) : Type 0 where
  pub makes : (c : Command) → IsCommandText rest c → Spells bytes (record { session = session; expected = expected; command = c })
  pub only : (l : Line) → Spells bytes l → IsCommandText rest l.command

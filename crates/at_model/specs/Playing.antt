-- Worked sessions: lines, each with what is told behind it.
use Rattle.std.specs.Prelude.{◌≡◌, ℕ, Bool, false, List, [], ◌∷◌, ◌++◌, map}
use Rattle.std.specs.List.{flat_map, AllByRecursion}
use lib.Chars.{codes}
use Prim.Native.String.{String}
use Rattle.at_model.specs.Rules.{Rules}
use Rattle.at_model.specs.Replies.{Reply}
use Rattle.at_model.specs.Machine.{State, Runs, Outputs, text_of}

-- the bytes of a line, and those of its reply and of what is answered by the turn that follows, without the last newline
pub record Exchange : Type 0 where
  pub line : List ℕ
  pub reply : List ℕ

-- this line gets that reply
infix 80 ◌⟼◌
abbrev pub ◌⟼◌ : String → String → Exchange
line ⟼ reply = record { line = codes line; reply = codes reply }

-- From the state on each of the lines gets its reply, where memory never runs out and one turn follows each line.
pub record Plays (rules : Rules) (s : State) (played : List Exchange) : Type 0 where
  pub left : State
  pub told : List (Bool × Reply)
  pub runs : Runs rules 1 s (map (λ e. e.line) played) told left
  pub within_memory : AllByRecursion (λ (x : Bool × Reply). x.0 ≡ false) told
  pub text : text_of told ≡ flat_map (λ e. e.reply ++ 10 ∷ []) played

-- what is written for the bytes, the state in which they leave the machine, and which replies are for want of memory
pub record Writes (rules : Rules) (slice : ℕ) (s : State) (bytes : List ℕ) (named : List Bool) (text : List ℕ) (left : State) : Type 0 where
  pub told : List (Bool × Reply)
  pub outputs : Outputs rules slice s bytes told left
  pub names : map (λ (x : Bool × Reply). x.0) told ≡ named
  pub text_is : text_of told ≡ text

-- What the answer of `read_line` says.
use Rattle.std.specs.Prelude.{◌≡◌, ℕ, List, Some, Result, Ok, Err}
use Rattle.at_model.specs.Lines.{Line, Spells, IsSessionOf}
use Rattle.at_protocol.specs.LineView.{line_view}
use Rattle.at_protocol.specs.declared.line.Line.{Line as LineValue}
use Rattle.at_protocol.specs.declared.line.LineFault.{LineFault}
use Rattle.at_protocol.specs.declared.line.LineFault.TheVariants.{Syntax, Memory}

-- this line, or want of memory for its session
abbrev pub Reads : Result LineValue LineFault → Line → Type 0
Reads (Ok read) l = line_view read ≡ l
Reads (Err fault) l = fault ≡ Memory (Some l.session)

-- no line has this text, or memory ran out; the session is that of the text
abbrev pub Refuses : List ℕ → LineFault → Type 0
Refuses bytes (Syntax session) = ((l : Line) → Spells bytes l → ⊥) × IsSessionOf bytes session
Refuses bytes (Memory session) = IsSessionOf bytes session

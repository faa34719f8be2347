-- What bytes say of the line and the session that they spell.
use Rattle.std.specs.Prelude.{◌≡◌, ℕ, List, Option, Some}
use Rattle.at_model.specs.Lines.{Line, Spells, IsSessionOf}

-- bytes are the text of one line at most
abbrev pub OneLineEach : Type 0
OneLineEach = (bytes : List ℕ) (k l : Line) → Spells bytes k → Spells bytes l → k ≡ l

-- one session at most, or none, can be read from bytes
abbrev pub OneSessionEach : Type 0
OneSessionEach = (bytes : List ℕ) (m n : Option ℕ) → IsSessionOf bytes m → IsSessionOf bytes n → m ≡ n

-- from a line's text the line's session can be read
abbrev pub SessionIsOfLine : Type 0
SessionIsOfLine = (bytes : List ℕ) (session : Option ℕ) (l : Line) → IsSessionOf bytes session → Spells bytes l → session ≡ Some l.session

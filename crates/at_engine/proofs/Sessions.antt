-- The session of a line.
use Rattle.std.proofs.Common.{◌∷◌, ℕ, List, Some, refl}
use Rattle.at_model.specs.Lines.{Line, Spells, IsSessionOf}
use Rattle.at_protocol.proofs.Lines.{taken_apart}

-- from the bytes of a line its session can be read
pub session_of_line : (bytes : List ℕ) (l : Line) → Spells bytes l → IsSessionOf bytes (Some l.session)
session_of_line bytes l spells =
    let a = taken_apart bytes l spells in
    record { exists = a.small; rest = 32 ∷ a.rest; front = a.split; behind = refl }

-- What a component between slashes stands for.
use Rattle.at_text.specs.Pieces.{spelled}
use Rattle.at_start.specs.Slashes.{Slashed}
use Rattle.at_start.specs.declared.slashes.Slashed.{Slashed as SlashedValue}

abbrev pub slashed_view : SlashedValue → Slashed
slashed_view s = record { opens = s.opens; name = spelled s.name; closes = s.closes; more = s.more }

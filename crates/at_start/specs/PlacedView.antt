-- What a constant with its file stands for.
use Rattle.at_java.specs.Seen.{constant_view}
use Rattle.at_start.specs.Constants.{Placed}
use Rattle.at_start.specs.declared.constants.Placed.{Placed as PlacedValue}

abbrev pub placed_view : PlacedValue → Placed
placed_view p = record { file = p.file; constant = constant_view p.constant }

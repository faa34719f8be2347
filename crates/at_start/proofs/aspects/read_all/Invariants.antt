use Rattle.std.specs.Prelude.{map, take}
use Rattle.at_start.specs.AspectFiles.{AllGive}
use Rattle.at_start.specs.PlacedView.{placed_view}
use Rattle.at_start.specs.Starts.{aspect_bytes}
use Rattle.at_start.specs.FilesView.{aspects_of}
use Rattle.at_start.proofs.aspects.read_all.Given as goal

abbrev pub invariant-loop-i : goal.invariant-loop-i
invariant-loop-i l = AllGive l.fn.language l.fn.names (aspect_bytes (take l.i l.fn.aspects)) (map aspects_of l.all.aspects.items)
    (map placed_view l.all.constants.items)

use Rattle.std.specs.Prelude.{◌++◌, List, map, take}
use Rattle.at_model.specs.Classes.{Component}
use Rattle.at_class.specs.Taken.{AreTaken, Grows, IsFirstBelow, is_taken_at}
use Rattle.at_class.specs.View.{part_view}
use Rattle.at_class.proofs.taken.TakenNames.take_all.Given as goal

abbrev pub invariant-loop-i : goal.invariant-loop-i
invariant-loop-i l =
    Grows l.fn.self l.self
    × ((before : List Component) → AreTaken before l.fn.self.names.keys l.fn.self.accessors.keys
    → AreTaken (before ++ map part_view (take l.i l.parts)) l.self.names.keys l.self.accessors.keys
    × IsFirstBelow (is_taken_at before (map part_view l.parts)) l.i l.twice)

use Rattle.std.specs.Prelude.{◌≡◌, ◌++◌, length}
use Rattle.at_model.specs.Declarations.{above as above_of}
use Rattle.at_class.specs.View.{classes_view}
use Rattle.at_class.specs.Ways.{IsWay, on_way}
use Rattle.at_class.proofs.way.Way.go_to.Given as goal

abbrev pub invariant-loop-above : goal.invariant-loop-above
invariant-loop-above l =
    IsWay (classes_view l.classes) l.self.levels.items l.self.taken
    × (above_of (classes_view l.classes) l.fn.class ≡ l.missing.items ++ on_way l.self.levels.items)

abbrev pub decreases-loop-above : goal.decreases-loop-above
decreases-loop-above l = length l.missing.items

use Rattle.std.proofs.Common.{map}
use Rattle.at_class.specs.TreeView.{tree_view}
use Rattle.at_start.proofs.PlantingShapes.{AreMade}
use Rattle.at_start.proofs.constants.shaping.list_shaped.Given as goal

-- the names of the terms in front are known, and their trees are these if all are made
abbrev pub invariant-loop-term : goal.invariant-loop-term
invariant-loop-term l = AreMade l.classes l.terms l.kind l.term-index l.fit (map tree_view l.trees.items)

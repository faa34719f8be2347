use Rattle.std.proofs.Common.{length}
use denote.Text.{Utf8}
use denote.Shadow.{shadow}
use Rattle.at_tree.specs.PathView.{steps_view}
use Rattle.at_tree.proofs.PathFronts.{HasRead}
use Rattle.at_tree.proofs.path.read.whole_path.Given as goal

abbrev pub invariant-loop-behind : goal.invariant-loop-behind
invariant-loop-behind l = shadow (Utf8 l.rest) × HasRead l.fn.text l.rest (steps_view l.steps.items)

abbrev pub decreases-loop-behind : goal.decreases-loop-behind
decreases-loop-behind l = length l.rest

use Rattle.std.proofs.Common.{ℕ, List, length}
use denote.Text.{Utf8}
use denote.Shadow.{shadow}
use Rattle.at_model.specs.Paths.{Path}
use Rattle.at_tree.specs.Leads.{LeadsTo}
use Rattle.at_tree.specs.PartialPath.{at, Colon, InIndex, step}
use Rattle.at_tree.proofs.path.read.index_first.Given as goal

abbrev pub invariant-loop-value : goal.invariant-loop-value
invariant-loop-value l = shadow (Utf8 l.rest) × ((ss : Path) (part : List ℕ) → LeadsTo step (at ss (Colon part)) l.text (at ss (InIndex part l.value)) l.rest)

abbrev pub decreases-loop-value : goal.decreases-loop-value
decreases-loop-value l = length l.rest

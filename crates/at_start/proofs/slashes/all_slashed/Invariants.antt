use Rattle.std.proofs.Common.{◌≡◌, ◌++◌, map, drop}
use Rattle.at_text.specs.Pieces.{spelled}
use Rattle.at_start.specs.Slashes.{all_slashed, slashed_in}
use Rattle.at_start.specs.SlashesView.{slashed_view}
use Rattle.at_start.proofs.slashes.all_slashed.Given as goal

-- those of the tokens that are left are still to come
abbrev pub invariant-loop-i : goal.invariant-loop-i
invariant-loop-i l = map slashed_view l.found.items ++ all_slashed l.at l.more (map spelled (drop l.i l.tokens)) ≡ slashed_in (map spelled l.tokens)

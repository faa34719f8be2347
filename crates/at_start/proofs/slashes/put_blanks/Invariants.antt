use Rattle.std.proofs.Common.{◌≡◌, map, drop}
use Rattle.std.specs.Str.{IsUtf8}
use Rattle.at_start.specs.Slashes.{blanked, slashes}
use Rattle.at_start.specs.SlashesView.{slashed_view}
use Rattle.at_start.proofs.slashes.put_blanks.Given as goal

-- those that are left are still to be put
abbrev pub invariant-loop-slashed : goal.invariant-loop-slashed
invariant-loop-slashed l = (blanked l.bytes.items (slashes (map slashed_view (drop l.slashed-index l.found)))
    ≡ blanked l.fn.bytes.items (slashes (map slashed_view l.found))) × (IsUtf8 l.fn.bytes.items → IsUtf8 l.bytes.items)

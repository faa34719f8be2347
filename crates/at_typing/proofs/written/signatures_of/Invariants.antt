use Rattle.std.proofs.Common.{◌≡◌, ◌++◌, map, drop}
use Rattle.at_typing.specs.Meanings.{results, signatures, signatures_among}
use Rattle.at_typing.specs.Numbering.{numbered_view}
use Rattle.at_typing.proofs.written.signatures_of.Given as goal

abbrev pub invariant-loop-numbered : goal.invariant-loop-numbered
invariant-loop-numbered l = l.signatures ++ signatures_among l.classes (results (map numbered_view l.declared))
    (map numbered_view (drop l.numbered-index l.declared)) ≡ signatures l.classes (map numbered_view l.declared)
